pub mod Moving
pub mod Alongside
