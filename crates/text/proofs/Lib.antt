pub mod Digits
pub mod Numeral
pub mod Bytes
pub mod Examples
