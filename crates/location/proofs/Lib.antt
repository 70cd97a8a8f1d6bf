pub mod Locating
pub mod Modes
