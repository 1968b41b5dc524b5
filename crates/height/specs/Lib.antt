-- Heights along a direction, and the higher of two spots.
pub mod Height
