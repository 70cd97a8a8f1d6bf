pub mod Stepping
pub mod Keeping
pub mod Passed
