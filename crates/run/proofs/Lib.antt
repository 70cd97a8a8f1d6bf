pub mod Adding
pub mod Stepping
