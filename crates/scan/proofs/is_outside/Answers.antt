-- `scan::is_outside` meets its contract. Assumes nothing.
use Rattle.std.proofs.Common.{rules, tests, eqb}
use Rattle.whole.specs.Searches.{any_by_items}
use Rattle.scan.specs.Rules.{is_outside}
use Rattle.scan.proofs.is_outside.Goals as goal

pub returns-then-not-is_inside : goal.returns-then-not-is_inside
unfolding is_outside
returns-then-not-is_inside c =
    let e = any_by_items (λ x. eqb x c.args.v) _ _ _ _ _ c.iter.ensures.rest c.any.ensures.ran (λ x b q k. search (rules, tests)) in
    search (rules, e)
