-- The theorems on a closed surface of flat facets: `Theorems` states them of a solid's tables, the others prove them of any surface.
pub mod Cone
pub mod Fall
pub mod Fan
pub mod Keys
pub mod Generic
pub mod Peel
pub mod LocalGlobal
pub mod Places
pub mod Theorems
pub mod Tetra
