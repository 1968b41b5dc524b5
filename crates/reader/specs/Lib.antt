-- The tape's reader.
pub mod Answer
pub mod Deciding
pub mod Room
