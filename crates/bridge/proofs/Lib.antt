-- Numbers 4 to 8 find nothing exactly where the surface is closed.
pub mod Closed
