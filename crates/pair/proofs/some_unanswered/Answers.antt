-- `pair::some_unanswered` meets its contract: the places of the run at the test `unanswered`. Assumes nothing.
use Rattle.std.proofs.Common.{rules, tests}
use Rattle.whole.specs.Searches.{any_by_range}
use Rattle.pair.specs.Answered.{unanswered}
use Rattle.pair.proofs.some_unanswered.Goals as goal

pub returns : goal.returns
returns c = any_by_range (unanswered c.args.corners.now c.args.begins.now) _ _ _ _ c.any.ensures.ran (λ x b q k. search (rules, tests))
