pub mod Order
pub mod Steps
