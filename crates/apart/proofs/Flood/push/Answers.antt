-- `apart::Flood::push` meets its contract. Assumes nothing.
use Rattle.whole.specs.Flood.{push_stored, push_none}
use Rattle.apart.proofs.Flood.push.Goals as goal

pub returns-then-not-self-g : goal.returns-then-not-self-g
returns-then-not-self-g c = push_stored c.if-not-self-g.true

pub returns-else-not-self-g : goal.returns-else-not-self-g
returns-else-not-self-g c = push_none c.if-not-self-g.false
