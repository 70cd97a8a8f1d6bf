pub mod Flags
pub mod Plus
pub mod Minus
