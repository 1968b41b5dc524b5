-- Exact geometry on whole numbers: vectors, determinants, their bounds, and numbers against 0.
pub mod Vec
pub mod Vectors
pub mod Algebra
pub mod Plane
pub mod Rows
pub mod Nought
