pub mod Aligned
pub mod Few
pub mod Lower
