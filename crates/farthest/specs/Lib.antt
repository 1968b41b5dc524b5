-- Demand 3, the walk's end is highest of all vertices.
pub mod Neighbours
pub mod Demand3
pub mod Cases
