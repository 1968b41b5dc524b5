-- What acceptance means, each row of the sheet's table, and what 1 to 3, APART and REFLEX mean in plain quantifiers.
pub mod Meaning
pub mod Rows
pub mod Numbers
pub mod Orderly
pub mod Apart
pub mod Reflex
