-- Rows of three whole numbers: what the determinant of three rows and the cross product of two promise.
pub mod Cross
