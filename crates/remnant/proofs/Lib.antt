pub mod Sizes
pub mod Resting
pub mod Dropping
pub mod Leading
