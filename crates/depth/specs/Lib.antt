pub mod Columns
pub mod Depth
pub mod Read
pub mod Bound
