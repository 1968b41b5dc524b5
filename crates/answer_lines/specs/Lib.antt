-- The line of an answer, and of a walk.
pub mod Lines
