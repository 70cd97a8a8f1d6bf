pub mod Quick
pub mod Sized
