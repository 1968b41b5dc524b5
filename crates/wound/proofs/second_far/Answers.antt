-- `wound::second_far` meets its contract. Assumes nothing.
use Rattle.std.proofs.Common.{rules, arith}
use borrow.Author.Tests.{tests}
use Rattle.std.proofs.lemmas.Iterator.{YieldsList-from_range}
use Rattle.std.proofs.lemmas.Iterator.Consumers.{YieldsList-from_filter, nth_from_yields_List}
use Rattle.once_round.specs.Words.{far, count}
use Rattle.wound.specs.Seen.{second}
use Rattle.wound.proofs.second_far.Goals as goal

pub returns : goal.returns
returns c =
    let points = c.args.points.now in
    let n = count points in
    let test = far points in
    second test n c.nth.result (nth_from_yields_List c.nth.result _ 1 c.nth.ensures.ran
    (YieldsList-from_filter _ test (YieldsList-from_range 0 n n (cc) (omega arith)) c.filter.ensures.closure (λ x b q k. search (rules, tests))))
