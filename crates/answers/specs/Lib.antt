-- The answer record, and the order of the rules.
pub mod Answer
pub mod Order
