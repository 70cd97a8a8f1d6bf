pub mod Class
pub mod Range
pub mod Table
pub mod Decide
pub mod Answer
