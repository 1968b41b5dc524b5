-- The solid's three lent tables: their limits, number 1, SIZE, the facet look-up, and the first place at which a rule applies.
pub mod Found
pub mod Search
pub mod Tables
pub mod Size
pub mod Places
pub mod Facets
pub mod LookUp
