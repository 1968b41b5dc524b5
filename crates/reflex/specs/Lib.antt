-- Number 11, REFLEX: the fold at each edge.
pub mod Rules
pub mod Fold
