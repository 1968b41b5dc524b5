-- Number 8, APART: every facet is reached from facet 0 across edges.
pub mod Apart
pub mod Flooding
