-- Numbers 1 to 10 in their order, what tables that pass them have, and what the tables of the index then hold.
pub mod Rules
pub mod Known
pub mod HandsOut
