pub mod Combined
pub mod Held
pub mod NearSum
pub mod FarSum
