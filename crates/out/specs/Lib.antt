-- The numbers that the functions for Rust and C leave in `out`.
pub mod Noted
