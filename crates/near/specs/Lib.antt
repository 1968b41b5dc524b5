-- OUTSIDE at the neighbours of each facet's corners.
pub mod Near
