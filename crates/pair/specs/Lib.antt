-- Number 6, PAIR, over the index of the edges.
pub mod Flat
pub mod Pair
pub mod Across
pub mod Answered
