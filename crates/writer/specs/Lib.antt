-- The tape's writer.
pub mod Answer
pub mod Owed
