-- Local convexity makes the whole convex: from the neighbours of a facet's corners to all vertices. Assumes nothing.
use Rattle.std.proofs.Common.{sym, inl, inr}
use Rattle.std.specs.Prelude.{ℤ, pos, ◌≤ℤ◌}
use Rattle.std.specs.Int.Signed.{≤ℤ_refl}
use Rattle.whole.specs.Order.{le_or_lt, lt→le, eq→le, not_le}
use Rattle.space.specs.Vectors.{◌-ᵛ◌, ◌·◌, not_lower}
use Rattle.solid.specs.Reach.{Linked, self, link}
use Rattle.solid.specs.Surface.{Surface, Inside}
use Rattle.solid.specs.Local.{Local}
use Rattle.solid.specs.Mates.{mate_touches}
use Rattle.solid.specs.Path.{Path, start, go, join, reverse}
use Rattle.solid.specs.Generic.{along}
use Rattle.solid.proofs.Generic.{decides, generic}
use Rattle.solid.proofs.Peel.{ridge}

module _ {P F : Type 0} {M : Surface P F} (L : Local M) where
  open M use {Corner, Edge, at, normal, first, starts, ends, flat}
  open L use {near, whole}

  -- ---- a way from each vertex to each

  abbrev Way : P → P → Type 0
  Way u w = Path Corner (λ z. Unit {0}) u w

  linked : {f g : F} {u w : P} → Linked Edge f g → Corner f u → Corner g w → Way u w
  linked self cu cw = go (start tt) cu cw tt
  linked (link l e r) cu cw = go (linked l cu (starts e)) (ends r) cw tt

  way : {f g : F} {u w : P} → Corner f u → Corner g w → Way u w
  way cu cw = join (reverse (linked (whole.reached cu) whole.at_hub cu)) (linked (whole.reached cw) whole.at_hub cw)

  -- ---- the facet f has a corner u

  module _ {f : F} {u : P} (cu : Corner f u) where
    rank : P → ℤ
    rank z = along L (normal f) · at z

    -- l is not below the plane of f
    module _ {g : F} {l : P} (cl : Corner g l) (high : pos 0 ≤ℤ normal f · (at l -ᵛ at (first f))) where
      -- a way from f that is nowhere lower than l stays on f
      stays : {z : P} → Path Corner (λ z. rank l ≤ℤ rank z) u z → Corner f z
      unfolding rank
      stays (start a) = cu
      stays (go {y} {z} p c e a) =
          let cy = stays p in
          mate_touches near cy c e (not_lower (normal f) (at (first f)) (at y) (at l) (at z) (flat cy) high (decides L (normal f) cl e a))

      lies : {h : F} {w : P} → Corner h w → rank l ≤ℤ rank u → rank l ≤ℤ rank w → Corner f w
      unfolding rank
      lies cw hu hw = stays (ridge near (generic L (normal f)) (way cu cw) (rank l) hu hw)

    -- and where w is not below it, there is such a way from u to w
    holds : {h : F} {w : P} → Corner h w → pos 0 ≤ℤ normal f · (at w -ᵛ at (first f)) → Corner f w
    holds {w} cw high = elim (le_or_lt (rank u) (rank w)) [
      | inl k ↦ lies cu (eq→le (sym (flat cu))) cw (≤ℤ_refl (rank u)) k
      | inr k ↦ lies cw high cw (lt→le k) (≤ℤ_refl (rank w))
    ]

  -- OUTSIDE
  pub inside : {f g : F} {u w : P} → Corner f u → Corner g w → ¬ Corner f w → Inside M f w
  inside cu cw out = not_le (λ high. out (holds cu cw high))
