pub mod Units
pub mod Table
