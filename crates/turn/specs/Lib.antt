-- Number 10, TURN: a facet's outline turns left at every corner.
pub mod Rules
