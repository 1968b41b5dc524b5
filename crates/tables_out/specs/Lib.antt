-- The records of all points and of all facets of the lent tables, written: what the buffer holds on the way.
pub mod Records
