-- What rests on the room of a tape: its bytes, and that the bytes beyond them are no matter.
pub mod Room
pub mod Sure
