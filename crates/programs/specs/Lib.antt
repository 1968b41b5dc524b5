-- What the two programs print of a tape.
pub mod Lines
