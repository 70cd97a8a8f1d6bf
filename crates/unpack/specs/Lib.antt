pub mod Double
pub mod Read
pub mod Steps
