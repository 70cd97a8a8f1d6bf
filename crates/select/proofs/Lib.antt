pub mod Cell
pub mod Heads
pub mod Run
