-- The judge's answer, and what is known of tables that pass its rules.
pub mod Judge
pub mod Stages
