-- Number 9, BENT, by its row of the sheet's table. A facet is its part of the run.
use Rattle.std.specs.Prelude.{◌≡◌, Bool, true, false, cond, List, Some, None, eqb, ltb, ℤ, length, get_or}
use Rattle.std.proofs.Math.Path.{refl, ap}
use Rattle.std.proofs.Common.{◌∙◌, arith}
use Rattle.std.proofs.Math.Bool.{not}
use Prim.Native.Nat.{ℕ, zero, suc, ◌≤◌, ◌<◌}
use borrow.Author.Tests.{le-ltb, ne_eqb}
use Rattle.whole.specs.First.{found_below, NoneYet, yet_0, yet_more, hit}
use Rattle.sides.specs.Sides.{side_of, in_line, is_on}
use Rattle.sides.specs.declared.Side.{Side}
use Rattle.tables.specs.Facets.{in_facets}
use Rattle.tables.specs.Search.{Search}

-- "A facet's plane comes from its first three corners a, b, c"
abbrev pub side_at : List ℤ → List ℕ → ℕ → Side
side_at points part v = side_of points (get_or part 0 0) (get_or part 1 0) (get_or part 2 0) v

-- "first three corners in line (position 2), or a later corner off the plane"
unfoldable pub is_bent : List ℤ → List ℕ → ℕ → Bool
is_bent points part p =
    cond (ltb p 2) false
    (cond (eqb p 2) (in_line points (get_or part 0 0) (get_or part 1 0) (get_or part 2 0)) (not (is_on (side_at points part (get_or part p 0)))))

abbrev pub bent : List ℤ → List ℕ → List ℕ → Search
bent points corners begins = in_facets corners begins (is_bent points)

-- ---- BENT at each position

module _ (points : List ℤ) (part : List ℕ) where
  bent-start : 3 ≤ length part → NoneYet (is_bent points part) (length part) 2
  unfolding is_bent
  bent-start l = yet_more (yet_more yet_0 refl (omega arith)) refl (omega arith)

  pub bent-third : is_bent points part 2 ≡ in_line points (get_or part 0 0) (get_or part 1 0) (get_or part 2 0)
  unfolding is_bent
  bent-third = refl

  pub bent-later : {p : ℕ} → 3 ≤ p → is_bent points part p ≡ not (is_on (side_at points part (get_or part p 0)))
  unfolding is_bent
  bent-later {p} l = rw (le-ltb p 2 (omega arith), ne_eqb p 2 (omega arith))

  -- where the search over the later corners begins, and where it isn't reached
  pub in_line-at : 3 ≤ length part → in_line points (get_or part 0 0) (get_or part 1 0) (get_or part 2 0) ≡ true
      → Some 2 ≡ found_below (is_bent points part) (length part)
  in_line-at l e = hit (bent-start l) (bent-third ∙ e) (omega arith) Some None

  pub not_in_line : 3 ≤ length part → in_line points (get_or part 0 0) (get_or part 1 0) (get_or part 2 0) ≡ false
      → NoneYet (is_bent points part) (length part) 3
  not_in_line l e = yet_more (bent-start l) (bent-third ∙ e) (omega arith)

  -- BENT finds nothing in a facet
  pub no_bend : is_bent points part 2 ≡ false → ((p : ℕ) → 3 ≤ p → p < length part → is_on (side_at points part (get_or part p 0)) ≡ true)
      → (p : ℕ) → p < length part → is_bent points part p ≡ false
  unfolding is_bent
  no_bend third later zero l = refl
  no_bend third later (suc zero) l = refl
  no_bend third later (suc (suc zero)) l = third
  no_bend third later (suc (suc (suc p))) l = bent-later (omega arith) ∙ ap not (later (suc (suc (suc p))) (omega arith) l)
