pub mod Limits
pub mod Limbs
pub mod Operand
