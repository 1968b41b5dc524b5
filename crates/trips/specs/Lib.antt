-- The round trips: what is read is the tape of the tables that were filled, and the tape of tables is read as those tables; the longest tape.
pub mod Taped
pub mod ReadIsTape
pub mod TapeIsRead
pub mod Trips
pub mod Longest
pub mod Cases
