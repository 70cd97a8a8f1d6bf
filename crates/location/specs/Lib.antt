pub mod Ternary
pub mod Location
