-- `input::direction_in` meets its contract. Assumes nothing.
use Rattle.std.proofs.Common.{rules}
use Rattle.input.specs.Input.{direction_in}
use Rattle.input.proofs.direction_in.Goals as goal

pub returns-else-is_crowded : goal.returns-else-is_crowded
unfolding direction_in
returns-else-is_crowded c = rw (← c.is_crowded.ensures, c.if-is_crowded.false) (search rules)
