pub mod Unread
pub mod FullTarget
pub mod Level
pub mod GuardBelow
pub mod InOrder
pub mod InHollow
pub mod Offering
