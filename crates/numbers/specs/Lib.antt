-- Decimal numbers, read from words.
pub mod Number
pub mod Reading
