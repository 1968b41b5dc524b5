-- The corners and begins of a tape's records, stored into the lent tables: what these hold on the way.
pub mod Filling
