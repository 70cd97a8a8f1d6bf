pub mod Copied
pub mod Trimmed
