pub mod Opening
pub mod ReadingOn
pub mod Closing
pub mod FillingTarget
