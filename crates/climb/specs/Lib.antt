-- One step of the walk, and steps until none rises.
pub mod Move
pub mod Course
pub mod Best
pub mod Ready
pub mod Stepped
pub mod Rise
pub mod Climb
