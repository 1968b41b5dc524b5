-- A facet seen from its corner v, between the corner p before v and the corner q after it. Assumes nothing.
use Rattle.std.proofs.Common.{sym, subst}
use Rattle.std.specs.Prelude.{◌≢◌, ℤ, pos, ◌≤ℤ◌}
use Rattle.space.specs.Vec.{Vec}
use Rattle.space.specs.Vectors.{◌-ᵛ◌, ◌·◌}
use Rattle.solid.specs.Left.{Left, between_≤}
use Rattle.solid.specs.Surface.{Surface, no_loop, from_start, from_end}

module _ {P F : Type 0} (M : Surface P F) where
  open M use {Corner, Edge, at, normal, same?, starts, no_return}

  module _ {f : F} {p v q : P} (into : Edge f p v) (out : Edge f v q) where
    pub sides-differ : p ≢ q
    sides-differ s = no_return into (subst (λ z. Edge f v z) (sym s) out)

    -- of this L2 speaks: det (at q - at v) (at p - at v) x has the sign of normal f · x
    pub wedge : Left (normal f) (at q -ᵛ at v) (at p -ᵛ at v)
    wedge = from_start M out (starts into) (no_loop M into) sides-differ

    -- what is positive at neither side is so at no corner
    pub sides-bound : {c : P} → Corner f c → c ≢ v → (l : Vec ℤ)
        → l · (at q -ᵛ at v) ≤ℤ pos 0 → l · (at p -ᵛ at v) ≤ℤ pos 0 → l · (at c -ᵛ at v) ≤ℤ pos 0
    sides-bound {c} k cv l lq lp = elim (same? c p) [
      | yes s ↦ subst (λ c. l · (at c -ᵛ at v) ≤ℤ pos 0) (sym s) lp
      | no cp ↦ elim (same? c q) [
        | yes s ↦ subst (λ c. l · (at c -ᵛ at v) ≤ℤ pos 0) (sym s) lq
        | no cq ↦ between_≤ (from_start M out k cv cq) (from_end M into k cp cv) wedge l lq lp
      ]
    ]
