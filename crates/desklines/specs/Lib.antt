pub mod Order
pub mod Answer
pub mod Written
