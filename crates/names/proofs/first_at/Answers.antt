-- `names::first_at` meets its contract: the law of searches, at the test `is_at part v`. Assumes nothing.
use Rattle.std.proofs.Common.{rules, tests}
use Rattle.whole.specs.First.{first_found}
use Rattle.whole.specs.Searches.{found_by_find}
use Rattle.names.specs.Rules.{is_at}
use Rattle.names.proofs.first_at.Goals as goal

pub returns : goal.returns
returns c =
    let test = is_at c.args.part.now c.args.v in
    first_found test c.args.n (found_by_find test _ _ _ _ c.find.ensures.ran (λ x b q k. search (rules, tests))) c.unwrap_or.ensures
