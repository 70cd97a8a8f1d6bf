pub mod Change
pub mod Window
pub mod Tail
pub mod Append
