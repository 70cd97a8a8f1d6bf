pub mod Desk
pub mod Serving
