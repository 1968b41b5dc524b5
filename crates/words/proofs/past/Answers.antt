-- `words::past` meets its contract. Assumes nothing.
use Rattle.std.proofs.Common.{rules, tests, arith, sym, ap, ◌∙◌, ◌≡◌, ℕ, ◌+◌, ◌-◌, List, [], Option, Some, None, Bor, length, drop, length-drop, take_all}
use Rattle.std.specs.Option.{UnwrapsOrElse}
use Rattle.std.specs.Slice.{IsGetRangeResult}
use Rattle.std.proofs.lemmas.Iterator.{YieldsList-from_slice}
use Rattle.std.proofs.lemmas.Iterator.Consumers.{count_from_yields_List}
use Rattle.std.proofs.lemmas.Iterator.Search.{YieldsList-from_take_while}
use Rattle.std.proofs.lemmas.List.Folds.{length-prefix_len}
use Rattle.words.specs.Runs.{drop-end, prefix_run}
use Rattle.words.proofs.past.Goals as goal

-- what is left of a text at a place, no byte past its end
rest_of : (s : List ℕ) (at : ℕ) (part : Option (Bor (List ℕ))) (rest : Bor (List ℕ))
    → IsGetRangeResult s at (length s) part → UnwrapsOrElse part (λ r. r.now ≡ []) rest → rest.now ≡ drop at s
rest_of s at None rest g e = e ∙ sym (drop-end s at (omega (arith, g.0)))
rest_of s at (Some r) rest g e = ap (λ x. x.now) e ∙ g.0.2 ∙ take_all (length s - at) (drop at s) (simp length-drop (omega arith))

pub returns : goal.returns
returns g c p h =
    let s = drop c.args.at c.args.text.now in
    let rest = rest_of c.args.text.now c.args.at c.get.result c.unwrap_or_default-rest.result c.get.ensures.lookup c.unwrap_or_default-rest.ensures in
    let n = count_from_yields_List c.take_while.result _ c.count.ensures.ran
    (YieldsList-from_take_while _ p (YieldsList-from_slice s (cc)) c.take_while.ensures.closure c.take_while.ensures.done
    (λ x b q k. search (rules, tests, h))) in
    ap (λ n. c.args.at + n) (n ∙ length-prefix_len p s ∙ prefix_run p s)
