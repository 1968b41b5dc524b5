-- Theorem 5 of document 001: which outlines go once round, with every point left of every edge.
pub mod Round
