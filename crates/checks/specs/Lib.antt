pub mod Number
pub mod Refusal
pub mod Check
pub mod Passes
pub mod Room
pub mod Held
