pub mod Ways
pub mod Rows
