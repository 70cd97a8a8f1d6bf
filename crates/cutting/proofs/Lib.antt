pub mod Keeping
pub mod Taking
pub mod Underway
pub mod Resuming
