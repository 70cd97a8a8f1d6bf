pub mod Filling
pub mod Guarding
pub mod Attempted
pub mod Covering
pub mod Sides
pub mod Beside
