-- The walk program's work: a tape read, then walked.
pub mod Tape
