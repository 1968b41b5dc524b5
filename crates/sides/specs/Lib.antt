-- Which side of a plane a point is on, and which side of an edge, by the determinant of three rows of three.
pub mod Sides
