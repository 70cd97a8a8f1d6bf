pub mod Leap
pub mod Runs
