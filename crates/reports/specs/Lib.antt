pub mod Summed
pub mod Exchanged
pub mod Signed
pub mod Counts
pub mod Ranged
pub mod LaidOut
