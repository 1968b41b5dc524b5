-- An outline by the rule sheet's words, and what Theorem 5 of document 001 (proofs/Round.antt) rests on.
pub mod Second
pub mod Words
pub mod Limits
pub mod Sides
pub mod Hill
pub mod Ring
pub mod Greater
