-- Numbers 2 and 3, RANGE and INDEX, and the check of 1 to 3 that judge and writer make first.
pub mod InOrder
pub mod Rules
