-- What every reader of tables shares: the room that must be lent to it, its answer, and what it leaves in a lent table.
pub mod Answer
pub mod Room
pub mod Filled
