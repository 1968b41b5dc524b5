-- What every program on a tape begins with: the tape read into tables that are lent, and how much of each is the tape's.
pub mod Tape
pub mod Loaded
