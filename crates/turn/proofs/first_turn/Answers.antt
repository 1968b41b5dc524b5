-- `turn::first_turn` meets its contract: the law of searches, over the edges. Assumes nothing.
use Rattle.std.proofs.Common.{rules}
use Rattle.whole.specs.First.{yet_0}
use Rattle.whole.specs.Searches.{found_from}
use Rattle.turn.specs.Rules.{is_turn, turn_at}
use Rattle.turn.proofs.first_turn.Goals as goal

pub returns : goal.returns
returns c =
    found_from _ c.find.result (is_turn c.args.points.now c.args.part.now) c.find.ensures.ran yet_0 (λ x b q k. search rules)
    (λ x b q k l m. rw (turn_at, ← c.normal-n.ensures.is) (search rules))
