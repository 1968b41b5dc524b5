-- The longest tape; the bytes beyond one more are no matter.
pub mod Longest
pub mod Refusals
