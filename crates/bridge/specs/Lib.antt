-- The lent tables as the surface of which the theorems on solids speak.
pub mod Lower
pub mod Cases
pub mod Surface
pub mod Closed
