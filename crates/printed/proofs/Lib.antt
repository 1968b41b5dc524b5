-- What rests on the words of the walk program's line: of its direction, and of which refusal or walk is printed.
pub mod Meaning
pub mod WalkLine
