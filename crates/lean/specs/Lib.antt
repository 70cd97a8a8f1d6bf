pub mod Leaning
