pub mod Limbs
pub mod FirstAlone
pub mod KeptFirst
