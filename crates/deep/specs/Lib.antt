pub mod Deep
pub mod Reading
