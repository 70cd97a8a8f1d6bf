pub mod Fields
pub mod Printed
