pub mod Limits
pub mod Digits
