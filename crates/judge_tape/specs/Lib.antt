-- The judging program's work: a tape read, then judged.
pub mod Tape
