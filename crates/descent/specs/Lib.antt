pub mod Course
pub mod Finishing
pub mod Level
