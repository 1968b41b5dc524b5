-- The tape: its numbers, its records, the tape of tables, and the reading of bytes.
pub mod Little
pub mod Records
pub mod Tape
pub mod Reading
pub mod Look
pub mod SoFar
pub mod Whole
