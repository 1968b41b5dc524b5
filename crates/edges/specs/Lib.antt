-- The index of the edges: of each place of the run its facet, where its edge ends, the place across and the link to the place before in its chain.
pub mod Homes
pub mod Chains
pub mod Edge
pub mod Index
pub mod Along
