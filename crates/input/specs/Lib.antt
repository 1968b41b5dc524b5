-- The walk program's input: the start and the direction that its words name.
pub mod Input
