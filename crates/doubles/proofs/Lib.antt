pub mod Cases
pub mod Worth
pub mod Between
pub mod RoundTrip
pub mod Unique
pub mod Examples
