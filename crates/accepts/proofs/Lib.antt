-- The theorems on what is said of limits, APART and REFLEX in plain quantifiers.
pub mod Orderly
pub mod Apart
pub mod Reflex
