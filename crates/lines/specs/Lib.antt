-- Lines of decimal numbers, written.
pub mod Line
