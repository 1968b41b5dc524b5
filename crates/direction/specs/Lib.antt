-- The walk's direction: three whole numbers, its named axes, its limits.
pub mod Direction
