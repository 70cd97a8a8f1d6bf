pub mod Told
pub mod Agree
pub mod Apart
