pub mod Plain
pub mod Answers
