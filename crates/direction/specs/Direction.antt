-- "direction of three whole numbers": its named axes and the limits of its parts. Assumes nothing.
use Rattle.std.specs.Prelude.{◌≡◌, refl, ◌↔◌, Bool, true, false, ◌||◌, List, [], ◌∷◌, ℕ, ℤ, pos, negsuc}
use Rattle.std.proofs.Common.{sym, ◌∙◌, true≢false}
use Rattle.whole.specs.Bounds.{◌within◌, exceeds, within-exceeds, not_exceeds}
use Rattle.whole.specs.Count.{neither}
use Rattle.direction.specs.declared.Direction.{Direction}

abbrev pub direction : ℤ → ℤ → ℤ → Direction
direction x y z = record { x = x; y = y; z = z }

-- "The direction kind carries its own named axes: plus and minus x, y, z."
abbrev pub axes : List Direction
axes =
    direction (pos 1) (pos 0) (pos 0) ∷ direction (negsuc 0) (pos 0) (pos 0)
    ∷ direction (pos 0) (pos 1) (pos 0) ∷ direction (pos 0) (negsuc 0) (pos 0)
    ∷ direction (pos 0) (pos 0) (pos 1) ∷ direction (pos 0) (pos 0) (negsuc 0) ∷ []

-- ---- "a part outside -32,767 to 32,767"

abbrev pub steepest : ℕ
steepest = 32767

unfoldable pub is_steep : ℤ → Bool
is_steep part = exceeds steepest part

abbrev pub is_wrong : Direction → Bool
is_wrong d = is_steep d.x || (is_steep d.y || is_steep d.z)

-- a permitted direction
pub record Permitted (d : Direction) : Type 0 where
  pub x : d.x within steepest
  pub y : d.y within steepest
  pub z : d.z within steepest

pub permitted : (d : Direction) → is_wrong d ≡ false → Permitted d
unfolding is_steep
permitted d e =
    let (a, b) = neither (exceeds steepest d.x) (exceeds steepest d.y || exceeds steepest d.z) e in
    let (f, g) = neither (exceeds steepest d.y) (exceeds steepest d.z) b in
    record { x = within-exceeds steepest d.x a; y = within-exceeds steepest d.y f; z = within-exceeds steepest d.z g }

pub not_wrong : {d : Direction} → Permitted d → is_wrong d ≡ false
unfolding is_steep
not_wrong p = rw (not_exceeds p.x, not_exceeds p.y, not_exceeds p.z)

pub wrong_exactly : (d : Direction) → is_wrong d ≡ true ↔ ¬ Permitted d
wrong_exactly d = (λ e p. true≢false (sym e ∙ not_wrong p), λ n. go (is_wrong d) (λ e. n (permitted d e)))
  where
    go : (t : Bool) → ¬ (t ≡ false) → t ≡ true
    go true h = refl
    go false h = absurd (h refl)
