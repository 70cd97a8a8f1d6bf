pub mod Lines
pub mod Group
pub mod Held
