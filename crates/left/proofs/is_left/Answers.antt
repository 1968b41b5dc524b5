-- `left::is_left` meets its contract. Assumes nothing.
use Rattle.std.proofs.Common.{w64}
use Rattle.whole.specs.Machine.{read-exact}
use Rattle.once_round.specs.Words.{difference_of}
use Rattle.left.proofs.is_left.Goals as goal

pub returns : goal.returns
unfolding difference_of
returns c = rw (read-exact w64 c.minor.ensures.exact tt, c.row.ensures.is, c.row-2.ensures.is)
