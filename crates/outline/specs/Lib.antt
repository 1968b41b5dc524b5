-- The outline judge: what it answers.
pub mod Outline
