-- The outline judge by the rule sheet's words, in its order: what it answers to the numbers x, y, x, y, .. that it is lent.
use Rattle.std.specs.Prelude.{◌≡◌, ℕ, Bool, cond, List, ℤ, length, Some, None}
use Rattle.std.proofs.Common.{sym}
use Rattle.whole.specs.First.{pick_below, found_below, pick-lowest, pick-nowhere, found-lowest, found-nowhere}
use Rattle.once_round.specs.Words.{count, few, out_of_range, not_left, wound}
use Rattle.outline.specs.declared.Verdict.{Verdict}

abbrev pub verdict : ℕ → ℕ → Verdict
verdict number place = record { number = number; place = place }

-- a refusal that names the first point at which its test holds, or what comes after it in the order
abbrev pub refuse : ℕ → (ℕ → Bool) → ℕ → Verdict → Verdict
refuse number test n later = pick_below test n (verdict number) later

-- by what the search for that point answered
module _ (number : ℕ) (test : ℕ → Bool) (n : ℕ) (later : Verdict) where
  pub refused_at : {i : ℕ} → Some i ≡ found_below test n → verdict number i ≡ refuse number test n later
  refused_at e = pick-lowest (verdict number) later (found-lowest test n (sym e))

  pub passed : None ≡ found_below test n → later ≡ refuse number test n later
  passed e = pick-nowhere (verdict number) later (found-nowhere test n (sym e))

-- LEFT, WOUND, and "Acceptance gives 0 and the count"
unfoldable pub judged_turns : List ℤ → Verdict
judged_turns points =
    refuse 25 (not_left points) (count points)
    (refuse 26 (wound points) (count points)
    (verdict 0 (count points)))

-- "Refusals in order": FEW, RANGE, and then those
unfoldable pub judged_outline : List ℤ → Verdict
judged_outline points =
    cond (few (length points)) (verdict 24 0)
    (refuse 2 (out_of_range points) (count points)
    (judged_turns points))
