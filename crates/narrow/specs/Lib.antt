pub mod Sighting
pub mod Column
pub mod Looked
pub mod Lone
