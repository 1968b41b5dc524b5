-- What the one statement over the table of sixteen says of each row.
pub mod Table
