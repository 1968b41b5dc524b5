-- A closed surface of flat facets: `Tables` has a solid's tables, the others speak of any surface.
-- The theorems that rest on a definition which a must-fail edit changes stand in proofs/.
pub mod Left
pub mod Reach
pub mod Surface
pub mod Near
pub mod Solid
pub mod Reflex
pub mod Wedge
pub mod Vertex
pub mod TrueCorner
pub mod Mates
pub mod Round
pub mod Crossing
pub mod Fall
pub mod Path
pub mod Box
pub mod Key
pub mod Local
pub mod Generic
pub mod Tables
pub mod Circuit
pub mod Decide
pub mod Tetra
