pub mod Hole
