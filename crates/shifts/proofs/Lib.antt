pub mod LowBits
pub mod Windows
