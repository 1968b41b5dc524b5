-- What the functions for Rust and C tell of an answer.
pub mod Out
