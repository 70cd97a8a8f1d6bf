pub mod Exponents
pub mod Head
pub mod Sizes
pub mod Cases
pub mod Laws
pub mod Examples
