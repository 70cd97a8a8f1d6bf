pub mod Convert
pub mod Enclose
