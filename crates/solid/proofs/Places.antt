-- Tables that are sized, closed and flat make a `Surface`; with OUTSIDE a `Solid`, with REFLEX and N one that is convex near each vertex. Assumes nothing.
use Rattle.std.specs.Prelude.{◌≡◌, refl, ◌≢◌, Bool, ℕ, zero, suc, ◌<◌, eqb, ℤ, pos, ◌<ℤ◌}
use Rattle.std.proofs.Common.{sym, ◌∙◌, ap, subst, arith, eqb-true}
use Rattle.std.proofs.Math.Decide.{ℕ_discrete, dec_lt}
use Rattle.std.proofs.lemmas.Bool.{eqb-false}
use Rattle.whole.specs.Solver.{Expr, Eqn, num, ◌≐◌}
use Rattle.whole.specs.Formula.{exprs}
use Rattle.whole.specs.First.{first_below, first_holds, never}
use Rattle.space.specs.Vec.{Vec, sub, det as det³, solve³}
use Rattle.space.specs.Vectors.{◌-ᵛ◌, ◌·◌, det}
use Rattle.space.specs.Algebra.{det-last}
use Rattle.solid.specs.Surface.{Surface}
use Rattle.solid.specs.Near.{Near}
use Rattle.solid.specs.Solid.{Solid}
use Rattle.solid.specs.Local.{Whole}
use Rattle.solid.specs.Circuit.{after-lt, before, no_two}
use Rattle.solid.specs.Tables.{Tables, Place, Corner, Edge, Sized, Closed, Flat, Outside, Reflex, Neighbours, OnPlane, after, next, normal, volume}

-- a number below 3 besides f and g
besides : (f g : ℕ) → (k : ℕ) × (k < 3) × (k ≢ f) × (k ≢ g)
besides zero zero = (1, omega arith, omega arith, omega arith)
besides zero (suc zero) = (2, omega arith, omega arith, omega arith)
besides zero (suc (suc g)) = (1, omega arith, omega arith, omega arith)
besides (suc zero) zero = (2, omega arith, omega arith, omega arith)
besides (suc (suc f)) zero = (1, omega arith, omega arith, omega arith)
besides (suc f) (suc g) = (0, omega arith, omega arith, omega arith)

-- three points are on the plane through them
flatᵉ : Vec Expr → Vec Expr → Vec Expr → Vec Expr → Eqn
flatᵉ a b c d = det³ exprs (sub exprs b a) (sub exprs c a) (sub exprs d a) ≐ num (pos 0)

own_plane : (a b c : Vec ℤ) → (det (b -ᵛ a) (c -ᵛ a) (a -ᵛ a) ≡ pos 0) × (det (b -ᵛ a) (c -ᵛ a) (b -ᵛ a) ≡ pos 0) × (det (b -ᵛ a) (c -ᵛ a) (c -ᵛ a) ≡ pos 0)
unfolding flatᵉ det ◌-ᵛ◌
own_plane a b c =
    (solve³ 3 (λ a b c. flatᵉ a b c a) tt a b c, solve³ 3 (λ a b c. flatᵉ a b c b) tt a b c, solve³ 3 (λ a b c. flatᵉ a b c c) tt a b c)

module _ (t : Tables) where
  open t use {vertices, facets, size, corner, at}

  -- the six-fold volume, by the normal
  pub volume-is : (f w : ℕ) → normal t f · (at w -ᵛ at (corner f 0)) ≡ volume t f w
  unfolding normal
  volume-is f w = det-last (at (corner f 1) -ᵛ at (corner f 0)) (at (corner f 2) -ᵛ at (corner f 0)) (at w -ᵛ at (corner f 0))

  -- a facet's first three corners are on its plane, so all are
  own : (f : ℕ) → OnPlane t f (corner f 0) × OnPlane t f (corner f 1) × OnPlane t f (corner f 2)
  own f = own_plane (at (corner f 0)) (at (corner f 1)) (at (corner f 2))

  pub all_on_plane : Flat t → {f i : ℕ} → Place t f i → OnPlane t f (corner f i)
  all_on_plane B {f} {i = zero} p = (own f).0
  all_on_plane B {f} {i = suc zero} p = (own f).1
  all_on_plane B {f} {i = suc (suc zero)} p = (own f).2
  all_on_plane B {i = suc (suc (suc i))} p = B.on_plane p (omega arith)

  pub corner? : (f w : ℕ) → Dec (Corner t f w)
  corner? f w = go (dec_lt f facets) (dec_lt (first_below named (size f)) (size f))
    where
      named : ℕ → Bool
      named i = eqb (corner f i) w

      go : Dec (f < facets) → Dec (first_below named (size f) < size f) → Dec (Corner t f w)
      go (no z) r = no (λ c. z c.place.facet)
      go (yes h) (yes l) = yes (record { i = _; place = record { facet = h; position = l }; names = eqb-true _ w (first_holds named (size f) l) })
      go (yes h) (no z) = no (λ c. eqb-false _ w (never named (size f) (omega arith) c.i c.place.position) c.names)

  pub next_place : {f i : ℕ} → Place t f i → Place t f (after (size f) i)
  next_place {f} {i} p = record { facet = p.facet; position = after-lt (size f) i p.position }

  module _ (S : Sized t) where
    open S use {many, big, index}

    pub is_vertex : {f w : ℕ} → Corner t f w → w < vertices
    is_vertex c = subst (λ w. w < vertices) c.names (index c.place)

    pub first_corner : {f : ℕ} → f < facets → Corner t f (corner f 0)
    first_corner {f} h = record { i = 0; place = record { facet = h; position = omega (arith, big f h) }; names = refl }

    module _ (C : Closed t) (B : Flat t) where
      open C use {no_repeat, once, reverse, ring, reached}
      open B use {turn}

      pub no_return : {f u w : ℕ} → Edge t f u w → Edge t f w u → ⊥
      no_return {f} e r =
          let k = size f in
          let s : after k e.i ≡ r.i = no_repeat (next_place e.place) r.place (e.to ∙ sym r.from) in
          let z : after k r.i ≡ e.i = no_repeat (next_place r.place) e.place (r.to ∙ sym e.from) in
          no_two k e.i (big f e.place.facet) e.place.position (ap (after k) s ∙ z)

      pub prev : {f w : ℕ} → Corner t f w → (u : ℕ) × Edge t f u w
      prev {f} c =
          let (j, l, s) = before (size f) c.i c.place.position in
          (corner f j, record { i = j; place = record { facet = c.place.facet; position = l }; from = refl; to = ap (corner f) s ∙ c.names })

      pub across : {f u w : ℕ} → Edge t f u w → (g : ℕ) × Edge t g w u
      across e =
          let (g, r) = reverse e.place in
          (g, record { i = r.i; place = r.place; from = r.from ∙ e.to; to = r.to ∙ e.from })

      pub turns : {f a b c : ℕ} → Edge t f a b → Corner t f c → c ≢ a → c ≢ b → pos 0 <ℤ det (normal t f) (at b -ᵛ at a) (at c -ᵛ at a)
      turns e c ca cb = rw (← e.from, ← e.to, ← c.names)
          (turn e.place c.place (λ s. ca (sym c.names ∙ s ∙ e.from)) (λ s. cb (sym c.names ∙ s ∙ e.to)))

      abbrev pub surface : Surface ℕ ℕ
      surface = record {
        Corner = Corner t;
        Edge = Edge t;
        at = at;
        normal = normal t;
        first = λ f. corner f 0;
        same? = ℕ_discrete;
        corner? = corner?;
        starts = λ e. record { i = e.i; place = e.place; names = e.from };
        ends = λ e. record { i = _; place = next_place e.place; names = e.to };
        next = λ c. (_, record { i = c.i; place = c.place; from = c.names; to = refl });
        prev = prev;
        one_next = λ {f} e r. sym e.to ∙ ap (next t f) (no_repeat e.place r.place (e.from ∙ sym r.from)) ∙ r.to;
        no_return = no_return;
        one_facet = λ e r. (once e.place r.place (e.from ∙ sym r.from) (e.to ∙ sym r.to)).0;
        across = across;
        ring = λ c. ring _ (is_vertex c);
        flat = λ c. volume-is _ _ ∙ ap (volume t _) (sym c.names) ∙ all_on_plane B c.place;
        turn = turns;
      }

      pub solid : Outside t → Solid surface
      solid O = record {
        inside = λ c d out. rw volume-is (O.inside _ _ c.place.facet (is_vertex d) out);
        third = λ f g.
            let (k, l, nf, ng) = besides f g in
            record { facet = k; a = corner k 0; b = _; edge = (surface.next {f = k} (first_corner (omega (arith, many)))).1; not_f = nf; not_g = ng };
      }

      pub near : Reflex t → Neighbours t → Near surface
      near R N = record {
        reflex = λ e r c ca cb. rw (volume-is, ← c.names) (R.reflex e.place r.place (r.from ∙ sym e.to) (r.to ∙ sym e.from) c.place
            (λ s. ca (sym c.names ∙ s ∙ e.from)) (λ s. cb (sym c.names ∙ s ∙ e.to)));
        neighbour = λ c e out. rw (volume-is, ← e.to)
            (N.neighbour c.place e.place (e.from ∙ sym c.names) (λ k. out (subst (Corner t _) e.to k)));
      }

      pub whole : Whole surface
      whole = record {
        hub = 0;
        centre = corner 0 0;
        at_hub = first_corner (omega (arith, many));
        reached = λ c. reached _ c.place.facet;
      }
