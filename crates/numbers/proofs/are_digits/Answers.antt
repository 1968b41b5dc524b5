-- `numbers::are_digits` meets its contract. Assumes nothing.
use Rattle.std.proofs.Common.{rules, tests, arith}
use Rattle.std.proofs.lemmas.Iterator.{YieldsList-from_slice}
use Rattle.std.proofs.lemmas.Iterator.Search.{all_from_yields_List}
use Rattle.words.specs.Runs.{list_each}
use Rattle.numbers.specs.Number.{is_digit}
use Rattle.numbers.proofs.are_digits.Goals as goal

pub returns-then-not-is_empty : goal.returns-then-not-is_empty
returns-then-not-is_empty c =
    let s = c.args.s.now in
    let e = all_from_yields_List is_digit _ _ c.all.result c.all.ensures.ran (YieldsList-from_slice s (cc)) (λ x b q k. search (rules, tests)) in
    rw (e, list_each is_digit s) (grind arith)
