-- No two outcomes satisfy an entry's promise.
pub mod Entries
