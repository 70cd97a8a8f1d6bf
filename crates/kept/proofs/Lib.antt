pub mod Moves
pub mod Reaching
pub mod Unit
pub mod OneLimb
