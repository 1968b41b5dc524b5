-- A facet's plane and edges, and number 9, BENT.
pub mod Facet
pub mod Rules
