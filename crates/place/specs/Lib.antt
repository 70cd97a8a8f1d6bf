pub mod Placed
pub mod Rounded
pub mod InRange
pub mod Normal
pub mod Beside
