pub mod Copying
pub mod Parts
pub mod Trimming
