-- `pairs::first_out` meets its contract. Assumes nothing.
use Rattle.std.proofs.Common.{rules}
use borrow.Author.Tests.{tests}
use Rattle.once_round.specs.Words.{out_of_range, count}
use Rattle.whole.specs.Searches.{found_by_find}
use Rattle.pairs.proofs.first_out.Goals as goal

pub returns : goal.returns
returns c =
    let points = c.args.points.now in
    found_by_find (out_of_range points) (count points) _ _ _ c.find.ensures.ran (λ x b q k. search (rules, tests))
