-- What the proofs of several functions use, and that each promise fixes one answer.
mod Trim
mod Quick
pub mod Agree
pub mod Examples
