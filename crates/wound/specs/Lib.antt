-- WOUND: the search for a second far point.
pub mod Seen
