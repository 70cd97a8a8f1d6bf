pub mod Mode
pub mod Select
pub mod Answer
pub mod Sum
pub mod Paper
pub mod Marked
