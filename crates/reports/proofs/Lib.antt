pub mod Told
pub mod Counts
pub mod Zeros
pub mod Agree
pub mod Ranged
