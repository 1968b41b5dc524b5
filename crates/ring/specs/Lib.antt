-- Number 7, RING: the facets at each vertex make one ring.
pub mod Ring
pub mod Step
pub mod Circling
