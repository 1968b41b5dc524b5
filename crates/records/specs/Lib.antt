-- The tape's records, each written at the beginning of the unwritten rest of a buffer.
pub mod Records
