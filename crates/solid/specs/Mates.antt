-- N extended: the rule for neighbours holds of all corners of the facets at a vertex. Assumes nothing.
use Rattle.std.specs.Prelude.{◌≡◌, ◌≢◌, pos, ◌≤ℤ◌}
use Rattle.std.proofs.Common.{sym, subst, inl, inr}
use Rattle.space.specs.Vectors.{◌-ᵛ◌, ◌·◌}
use Rattle.solid.specs.Left.{between_0}
use Rattle.solid.specs.Surface.{Surface, Inside, not_above, touches, from_start, from_end}
use Rattle.solid.specs.Near.{Near, neighbour_in}
use Rattle.solid.specs.Wedge.{wedge}
use Rattle.solid.specs.Vertex.{no_digon, no_diagonal}

module _ {P F : Type 0} {M : Surface P F} (N : Near M) where
  open M use {Corner, Edge, at, normal, corner?, next, prev, one_facet, across}
  open N use {neighbour}

  -- the facets f and g at v, and a corner c of g
  module _ {f g : F} {v c : P} (cf : Corner f v) (cg : Corner g v) (cc : Corner g c) where
    -- the plane of f does not hold both sides of another facet
    not_both : f ≢ g → {p q : P} → Edge g p v → Edge g v q → Corner f p → Corner f q → ⊥
    not_both differ {p} {q} e o fp fq =
        let (a, i) = prev cf in
        let (b, j) = next cf in
        let (h, r) = across o in
        let pb : p ≡ b = elim (no_diagonal N i j fp e) [ inr s ↦ s | inl s ↦ absurd (differ (one_facet (subst (λ z. Edge f z v) (sym s) i) e)) ] in
        let qa : q ≡ a = elim (no_diagonal N i j fq r) [ inl s ↦ s | inr s ↦ absurd (differ (one_facet (subst (λ z. Edge f v z) (sym s) j) o)) ] in
        no_digon N i j (subst (λ z. Edge g z v) pb e) (subst (λ z. Edge g v z) qa o)

    -- nor does it touch g where it holds no side
    module _ (high : pos 0 ≤ℤ normal f · (at c -ᵛ at v)) (out : ¬ Corner f c) where
      no_side : {z : P} → (¬ Corner f z → Inside M f z) → c ≢ z
      no_side {z} i s = out (subst (λ z. Corner f z) (sym s) (touches M cf i (subst (λ z. pos 0 ≤ℤ normal f · (at z -ᵛ at v)) s high)))

      not_touched : ⊥
      not_touched =
          let (p, e) = prev cg in
          let (q, o) = next cg in
          let at_p = neighbour_in N cf e in
          let at-q = neighbour cf o in
          let cv : c ≢ v = λ s. out (subst (λ z. Corner f z) (sym s) cf) in
          let (hq, hp) = between_0 (from_start M o cc cv (no_side at-q)) (from_end M e cc (no_side at_p) cv) (wedge M e o) (normal f)
          (not_above M cf at-q) (not_above M cf at_p) high in
          not_both (λ s. out (subst (λ k. Corner k c) (sym s) cc)) e o (touches M cf at_p hp) (touches M cf at-q hq)

    pub mate_touches : pos 0 ≤ℤ normal f · (at c -ᵛ at v) → Corner f c
    mate_touches high = elim (corner? f c) [ yes k ↦ k | no out ↦ absurd (not_touched high out) ]
