-- A walk that is granted meets demand 3.
pub mod Demand3
