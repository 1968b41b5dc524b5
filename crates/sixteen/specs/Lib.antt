-- The rule sheet's table of sixteen, as a single table with a single proved statement.
pub mod Table
