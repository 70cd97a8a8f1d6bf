pub mod TwoLimbs
pub mod Exact
