-- The entries of the two tables of the index of the edges.
pub mod Entries
