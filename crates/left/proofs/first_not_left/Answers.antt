-- `left::first_not_left` meets its contract. Assumes nothing.
use Rattle.std.proofs.Common.{rules}
use borrow.Author.Tests.{tests}
use Rattle.once_round.specs.Words.{not_left, count}
use Rattle.whole.specs.Searches.{found_by_find}
use Rattle.left.proofs.first_not_left.Goals as goal

pub returns : goal.returns
returns c =
    let points = c.args.points.now in
    found_by_find (not_left points) (count points) _ _ _ c.find.ensures.ran (λ x b q k. search (rules, tests))
