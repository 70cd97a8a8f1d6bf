pub mod Moving
pub mod Tails
pub mod Showing
pub mod Walking
