-- `names::unused` meets its contract. Assumes nothing.
use Rattle.std.proofs.Common.{rules}
use Rattle.names.specs.Rules.{unnamed}
use Rattle.names.specs.Marks.{unmarked}
use Rattle.names.proofs.unused.Goals as goal

pub returns : goal.returns
returns c = c.lowest.ensures (unnamed c.args.corners.now) (λ v b l h. search (rules, unmarked))
