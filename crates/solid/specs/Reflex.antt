-- Lemma R: no edge of a solid is reflex. Assumes nothing.
-- Were a third corner common to the two facets at an edge, every vertex would be a corner of every facet, and a third facet would look away from both.
use Rattle.std.proofs.Common.{sym, subst}
use Rattle.std.specs.Prelude.{◌≢◌, ℤ, pos, ◌<ℤ◌}
use Rattle.whole.specs.Order.{clash, eq→le, lt→le}
use Rattle.space.specs.Vec.{Vec}
use Rattle.space.specs.Vectors.{◌-ᵛ◌, ◌·◌}
use Rattle.space.specs.Algebra.{coplanar}
use Rattle.solid.specs.Left.{Left, upright, below_<, two_sided, opposed}
use Rattle.solid.specs.Surface.{Surface, no_loop, on_plane, under, not_above, from_start, from_end}
use Rattle.solid.specs.Near.{Near}
use Rattle.solid.specs.Solid.{Solid}

module _ {P F : Type 0} {M : Surface P F} (S : Solid M) where
  open M use {Corner, Edge, at, normal, corner?, starts, ends, next, no_return, one_facet}
  open S use {inside, third}

  -- the corner after b is left of a → b
  third_corner : {f : F} {a b : P} → Edge f a b → (c : P) × Corner f c × Left (normal f) (at b -ᵛ at a) (at c -ᵛ at a)
  third_corner {f} {a} {b} e =
      let (c, k) = next (ends e) in
      (c, ends k, from_start M e (ends k) (λ s. no_return e (subst (λ z. Edge f b z) s k)) (λ s. no_loop M k (sym s)))

  -- every vertex is a corner of f
  abbrev Holds-all : F → Type 0
  Holds-all f = (g : F) (w : P) → Corner g w → Corner f w

  -- no vertex lies below two facets at a that share two sides and turn in opposite ways
  shared : {f g : F} {a : P} {x y : Vec ℤ} → Corner f a → Corner g a → Left (normal f) x y → Left (normal g) y x → Holds-all f
  shared {f} {a} cf cg s t k w cw = elim (corner? f w) [
    | yes i ↦ i
    | no out ↦ absurd (two_sided s t (at w -ᵛ at a) (under M cf (inside cf cw) out) (not_above M cg (inside cg cw)))
  ]

  -- then they all lie in one plane, and each facet holds them all
  spread : {f g : F} {a b p q : P} → Edge f a b → Holds-all f → Edge g p q → Holds-all g
  spread {f} {g} {p} {q} e all i k w cw =
      let (c, cf, s) = third_corner e in
      let (r, cr, t) = third_corner i in
      let cp = all g p (starts i) in
      let flat = coplanar (normal f) (at q -ᵛ at p) (at r -ᵛ at p) (at w -ᵛ at p) (upright s)
      (on_plane M cp (all g q (ends i))) (on_plane M cp (all g r cr)) (on_plane M cp (all k w cw)) in
      elim (corner? g w) [
        | yes j ↦ j
        | no out ↦ absurd (clash (below_< t (at w -ᵛ at p) (under M (starts i) (inside (starts i) cw) out)) (eq→le (sym flat)))
      ]

  -- two facets that hold them all look in opposite ways: else they have an edge in common
  face_off : {f g : F} {a b : P} → Edge f a b → Holds-all f → Holds-all g → f ≢ g → normal f · normal g <ℤ pos 0
  face_off {f} {g} {a} {b} e all-f all-g differ =
      let (r, k) = next (all-g f a (starts e)) in
      let rb : r ≢ b = λ s. differ (one_facet e (subst (λ z. Edge g a z) s k)) in
      opposed (from_start M e (all-f g r (ends k)) (λ s. no_loop M k (sym s)) rb)
      (from_start M k (all-g f b (ends e)) (λ s. no_loop M e (sym s)) (λ s. rb (sym s)))

  -- so the facets at an edge have only its ends in common
  no_third : {f g : F} {a b c : P} → Edge f a b → Edge g b a → Corner f c → Corner g c → c ≢ a → c ≢ b → ⊥
  no_third {f} {g} e r cf cg ca cb =
      let s = from_start M e cf ca cb in
      let t = from_end M r cg cb ca in
      let k = third f g in
      let all-f = shared (starts e) (ends r) s t in
      let all-g = spread e all-f r in
      let all-k = spread e all-f k.edge in
      two_sided s t (normal k.facet) (face_off e all-f all-k (λ z. k.not_f (sym z))) (lt→le (face_off r all-g all-k (λ z. k.not_g (sym z))))

  -- REFLEX, and N, which is a part of OUTSIDE: what holds near each vertex holds of a solid
  pub near : Near M
  near = record {
    reflex = λ e r cg ca cb. inside (starts e) cg (λ cf. no_third e r cf cg ca cb);
    neighbour = λ c e. inside c (ends e);
  }
