pub mod Turned
pub mod Entries
pub mod AtOnce
pub mod Examples
