-- L8, the cone at a vertex, and what it says of heights: a vertex that no neighbour is higher than is a highest one. Assumes nothing.
use Rattle.std.specs.Prelude.{◌≡◌, refl, ◌⊎◌, ℤ, pos, ◌≤ℤ◌, ◌<ℤ◌}
use Rattle.std.proofs.Common.{sym, subst, inl, inr}
use Rattle.whole.specs.Order.{clash, not_le, not_lt, lt→le}
use Rattle.space.specs.Vec.{Vec}
use Rattle.space.specs.Vectors.{◌-ᵛ◌, ◌·◌, det, swap-≤, cone_step, fall, unfall}
use Rattle.solid.specs.Left.{below_≤, below_<}
use Rattle.solid.specs.Reach.{Around, here, hop}
use Rattle.solid.specs.Surface.{Surface, under, not_above}
use Rattle.solid.specs.Near.{Near, neighbour_in}
use Rattle.solid.specs.Solid.{Solid}
use Rattle.solid.specs.Reflex as Lemma-R
use Rattle.solid.specs.Wedge.{wedge}
use Rattle.solid.specs.Vertex.{no_digon, no_diagonal}

module _ {P F : Type 0} {M : Surface P F} (N : Near M) where
  open M use {Corner, Edge, at, normal, corner?, starts, ends, next, prev, one_next, no_return, one_facet, across, ring}

  -- From v the direction x leads above no facet's plane. No neighbour of v is above it along d, but x leads up. The ring at v starts at f, with u → v → q
  module _ {v : P} (x d : Vec ℤ) (x_below : (f : F) → Corner f v → normal f · x ≤ℤ pos 0)
      (low : (f : F) (w : P) → Edge f v w → d · (at w -ᵛ at v) ≤ℤ pos 0) (high : pos 0 <ℤ d · x)
      {f : F} {u q : P} (into : Edge f u v) (out : Edge f v q) where
    -- on which side of the plane through v that holds u and x a vertex lies
    side : P → ℤ
    side w = det (at u -ᵛ at v) (at w -ᵛ at v) x

    -- what is known of each facet on the way round from f: its edge into v starts on the positive side, until f comes again
    data Swept (g : F) : Type 0 where
      back : g ≡ f → Swept g
      first : Edge g q v → Swept g
      later : {p : P} → Edge g p v → pos 0 <ℤ side p → Swept g

    first_side : pos 0 ≤ℤ side q
    unfolding side
    first_side = swap-≤ (at q -ᵛ at v) (at u -ᵛ at v) x (below_≤ (wedge M into out) x (x_below f (ends into)))

    low_in : {g : F} {p : P} → Edge g p v → d · (at p -ᵛ at v) ≤ℤ pos 0
    low_in e = let (h, r) = across e in low h _ r

    advance : {g : F} {p r : P} → Edge g p v → Edge g v r → pos 0 ≤ℤ side p → ¬ Corner g u → pos 0 <ℤ side r
    unfolding side
    advance {g} {p} {r} e o s away =
        let t = wedge M e o in
        not_le (λ k. clash high (cone_step (at r -ᵛ at v) (at p -ᵛ at v) (at u -ᵛ at v) x d
        (below_< t (at u -ᵛ at v) (under M (ends e) (neighbour_in N (ends e) into) away))
        (below_≤ t x (x_below g (ends e)))
        s k (low_in into) (low_in e) (low g r o)))

    leave : {g h : F} {r : P} → g ≡ f → Edge g v r → Edge h r v → Swept h
    leave {g} {h} {r} s o e = first (subst (λ z. Edge h z v) (one_next (subst (λ k. Edge k v r) s o) out) e)

    onward : {g h : F} {p r : P} → Edge g p v → pos 0 ≤ℤ side p → Edge g v r → Edge h r v → Swept h
    onward {g} {h} {p} {r} i s o e = elim (corner? g u) [ no away ↦ later e (advance i o s away) | yes c ↦ go (no_diagonal N i o c into) ]
      where
        go : (u ≡ p) ⊎ (u ≡ r) → Swept h
        go (inl s) = leave (one_facet (subst (λ z. Edge g z v) (sym s) i) into) o e
        go (inr s) = back (one_facet (subst (λ z. Edge h z v) (sym s) e) into)

    pass : {g h : F} {r : P} → Edge g v r → Edge h r v → Swept g → Swept h
    pass o e (back s) = leave s o e
    pass o e (first i) = onward i first_side o e
    pass o e (later i s) = onward i (lt→le s) o e

    sweep : {g : F} → Around Edge v f g → Swept g
    sweep here = back refl
    sweep (hop a o e) = pass o e (sweep a)

    -- but the facet before f, which has v → u, is reached
    not_last : {g : F} → Edge g v u → Swept g → ⊥
    unfolding side
    not_last {g} o (back s) = no_return into (subst (λ g. Edge g v u) s o)
    not_last {g} o (first i) = no_digon N into out i o
    not_last {g} o (later i s) = clash s (below_≤ (wedge M i o) x (x_below g (ends i)))

  -- L8, for any direction x that leads above no facet's plane at v
  pub cone : {f : F} {v : P} → Corner f v → (x d : Vec ℤ) → ((g : F) → Corner g v → normal g · x ≤ℤ pos 0)
      → ((g : F) (w : P) → Edge g v w → d · (at w -ᵛ at v) ≤ℤ pos 0) → d · x ≤ℤ pos 0
  cone c x d x_below low =
      let R = ring c in
      let (u, into) = prev R.at_start in
      let (q, out) = next R.at_start in
      let (g, o) = across into in
      not_lt (λ high. not_last x d x_below low high into out o (sweep x d x_below low high into out (R.reached (starts o))))

-- demand 3
module _ {P F : Type 0} {M : Surface P F} (S : Solid M) where
  open M use {Corner, Edge, at}
  open S use {inside}

  pub local_is_global : {f g : F} {v w : P} (d : Vec ℤ) → Corner f v → ((k : F) (u : P) → Edge k v u → d · at u ≤ℤ d · at v)
      → Corner g w → d · at w ≤ℤ d · at v
  local_is_global {v} {w} d cv low cw =
      unfall d (at w) (at v) (cone (Lemma-R.near S) cv (at w -ᵛ at v) d (λ g c. not_above M c (inside c cw)) (λ k u e. fall d (at u) (at v) (low k u e)))
