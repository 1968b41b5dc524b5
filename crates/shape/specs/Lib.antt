-- What it means that BENT, TURN, REFLEX and OUTSIDE find nothing, and which edges the index lists of a vertex.
pub mod Flat
pub mod Folds
pub mod Outside
pub mod Passed
pub mod Listed
pub mod Neighbours
