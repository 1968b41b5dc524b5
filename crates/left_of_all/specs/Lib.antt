-- What each answer of the outline judge means, both ways, and the answers to the sheet's outlines.
pub mod InOrder
pub mod Meaning
pub mod Cases
