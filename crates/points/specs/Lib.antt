-- The lent points: every coordinate is read here, with its limits, and the row from one point to another.
pub mod Points
pub mod Range
