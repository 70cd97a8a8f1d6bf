pub mod Front
pub mod Passing
