-- What the two programs' lines say, in the sheet's words; how much of their inputs settles them; and a line, read again.
pub mod Back
pub mod Cases
pub mod Cut
pub mod Meaning
pub mod Small
pub mod Tables
pub mod JudgeLine
pub mod WalkLine
