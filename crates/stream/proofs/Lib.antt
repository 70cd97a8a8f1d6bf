pub mod Numbers
pub mod Formed
pub mod Groups
pub mod Cuts
pub mod Printing
pub mod Pieces
pub mod Agree
pub mod Examples
