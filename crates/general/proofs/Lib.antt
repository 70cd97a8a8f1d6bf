pub mod Exchanged
pub mod RegularReport
pub mod RegularLevel
