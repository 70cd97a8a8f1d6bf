pub mod Tellings
pub mod Orders
