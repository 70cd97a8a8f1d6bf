pub mod Digits
pub mod Rest
pub mod Ones
