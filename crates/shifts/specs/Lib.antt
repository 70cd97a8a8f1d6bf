pub mod LowLimbs
