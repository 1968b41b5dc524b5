-- OUTSIDE facet by facet, vertex by vertex.
pub mod Rules
