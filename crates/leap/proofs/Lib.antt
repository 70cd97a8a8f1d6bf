pub mod Leaping
pub mod Guarding
