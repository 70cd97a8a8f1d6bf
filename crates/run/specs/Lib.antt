pub mod Sum
pub mod Walk
