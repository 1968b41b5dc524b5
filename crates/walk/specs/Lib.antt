-- The walk to a highest vertex of a solid that it judges first.
pub mod Walk
pub mod Meaning
