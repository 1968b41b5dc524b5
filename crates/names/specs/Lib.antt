-- Numbers 4 and 5, REPEAT and UNUSED: which vertices the facets name.
pub mod Marks
pub mod Rules
