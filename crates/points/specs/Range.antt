-- RANGE's limits: a coordinate is -8,191 to 8,191. Assumes nothing.
use Rattle.std.specs.Prelude.{◌≡◌, Bool, false, List, [], ◌∷◌, ℕ, ◌<◌, ℤ, pos, ◌-ℤ◌, length, get_or}
use Rattle.std.proofs.Common.{◌∙◌, ap₂, zero-le, arith, SFits}
use Rattle.std.proofs.Math.Decide.{dec_lt}
use Rattle.std.proofs.Math.ListN.{get_or-eq_default}
use Rattle.std.specs.Int.{w64}
use Rattle.whole.specs.Solver.{var, ◌⊖◌}
use Rattle.whole.specs.Machine.{Small, same, read, fits, computes}
use Rattle.space.specs.Rows.{longest}
use Rattle.whole.specs.Bounds.{◌within◌, Exact, exceeds, within-exceeds, not_exceeds}

abbrev pub limit : ℕ
limit = 8191

-- "a coordinate is outside its limits"
unfoldable pub is_out : ℤ → Bool
is_out x = exceeds limit x

-- each number of a run is within its limits
abbrev pub InRange : List ℤ → Type 0
InRange run = (k : ℕ) → get_or run k (pos 0) within limit

-- the difference of two coordinates, as the machine computes it
module _ {x y a b : ℤ} (p : Exact limit x a) (q : Exact limit y b) where
  both : Small (a ∷ b ∷ []) (same 2 limit)
  both = record { each = (p.small, (q.small, tt)) }

  pub difference_fits : SFits w64 (read w64 a -ℤ read w64 b)
  difference_fits = fits w64 both (var 0 ⊖ var 1) tt 0

  pub difference_is : Exact longest (x -ℤ y) (read w64 (read w64 a -ℤ read w64 b))
  difference_is =
      let r = computes w64 both (var 0 ⊖ var 1) tt in
      record { is = r.is ∙ ap₂ ◌-ℤ◌ p.is q.is; small = r.small }

pub in_range : (x : ℤ) → is_out x ≡ false → x within limit
unfolding is_out
in_range x e = within-exceeds limit x e

pub not_out : (x : ℤ) → x within limit → is_out x ≡ false
unfolding is_out
not_out x h = not_exceeds h

pub all_in : (run : List ℤ) → ((k : ℕ) → k < length run → is_out (get_or run k (pos 0)) ≡ false) → InRange run
all_in run h k = cases (dec_lt k (length run))
  where
    cases : Dec (k < length run) → get_or run k (pos 0) within limit
    cases (yes l) = in_range (get_or run k (pos 0)) (h k l)
    cases (no l) = rw (get_or-eq_default run (pos 0) {n = k} (omega arith)) (record { abs = zero-le })
