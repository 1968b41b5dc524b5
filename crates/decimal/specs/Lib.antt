-- A number in decimal, written.
pub mod Shown
pub mod Stored
