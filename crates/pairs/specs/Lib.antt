-- The points of an outline: the neighbours of each in the ring.
pub mod Neighbour
