-- Tables that pass 1 to 3: numbers 4 to 8 find nothing exactly where the surface is closed, as demand 2 asks. Assumes nothing.
use Rattle.std.specs.Prelude.{◌≡◌, refl, ◌↔◌, List, ℤ, length}
use Rattle.std.proofs.Math.Path.{sym, ap}
use Rattle.std.proofs.Common.{◌∙◌, arith}
use Prim.Native.Nat.{ℕ, zero, suc, ◌+◌, ◌<◌}
use Rattle.whole.specs.Orbit.{iterate}
use Rattle.whole.specs.Rounds.{first, arc}
use Rattle.points.specs.Points.{vertices}
use Rattle.tables.specs.Tables.{begin, home_of, next_of, from, to}
use Rattle.tables.specs.Places.{Sound, Single, next-below, next-home}
use Rattle.tables.specs.Found.{nowhere_is}
use Rattle.pair.specs.Pair.{Paired, pair-none}
use Rattle.edges.specs.Edge.{across_of, facet_across}
use Rattle.pair.specs.Across.{across, edge-once, Matched, paired_if, means_pair}
use Rattle.bridge.specs.Lower.{repeat-single, single-repeat, Used, unused-used, used_unused}
use Rattle.ring.specs.Step.{round_of, step-below, step-leaves, step-home}
use Rattle.ring.specs.Ring.{RoundTo, OneRing, ring-means, ring-from}
use Rattle.apart.specs.Apart.{Reached, apart-means, means_apart}
use Rattle.solid.specs.Reach.{Around, here, hop, Ring, Linked, self, link}
use Rattle.solid.specs.Tables.{Tables, Place, Corner, Edge, Closed, next}
use Rattle.bridge.specs.Surface.{tables_of, Names, Runs, place-names, place-runs, names_place, corner-names, names_corner, edge-runs, runs_edge}
use Rattle.bridge.specs.Closed.{Shut}

module _ (points : List ℤ) {corners begins : List ℕ} (S : Sound (vertices points) corners begins) where
  open S use {laid}

  abbrev T : Tables
  T = tables_of points corners begins

  -- ---- from the searches to the surface

  runs_at : {p : ℕ} → p < length corners → Runs corners begins (home_of begins p) (from corners p) (to corners begins p) p
  runs_at l = record { names = record { below = l; facet = refl; starts = refl }; ends = refl }

  module _ (P : Paired corners begins) where
    runs_across : {p : ℕ} → p < length corners
        → Runs corners begins (facet_across corners begins p) (to corners begins p) (from corners p) (across_of corners begins p)
    runs_across l = let r = across P l in record { names = record { below = r.below; facet = refl; starts = r.starts }; ends = r.ends }

    -- the edge at a place, and the one across
    edge : {p : ℕ} → p < length corners → Edge T (home_of begins p) (from corners p) (to corners begins p)
    edge l = runs_edge points laid (runs_at l)

    opposite : {p : ℕ} → p < length corners → Edge T (facet_across corners begins p) (to corners begins p) (from corners p)
    opposite l = runs_edge points laid (runs_across l)

    around : {v p : ℕ} → p < length corners → from corners p ≡ v → (j : ℕ)
        → let q = iterate (round_of corners begins) j p in
        (q < length corners) × (from corners q ≡ v) × Around (Edge T) v (home_of begins p) (home_of begins q)
    unfolding iterate
    around l e zero = (l, e, here)
    around l e (suc j) =
        let (b, s, a) = around l e j in
        (step-below laid P b, step-leaves laid P b ∙ s, rw (step-home laid P b) (hop a (rw s at (edge b)) (rw s at (opposite b))))

    -- the reverse of an edge stands across it
    crossed : {f g v w p q : ℕ} → Runs corners begins f v w p → Runs corners begins g w v q → across_of corners begins p ≡ q
    crossed a b =
        let r = across P a.names.below in
        edge-once P r.below b.names.below (r.starts ∙ a.ends ∙ sym b.names.starts) (r.ends ∙ a.names.starts ∙ sym b.ends)

    -- what is reached is linked to facet 0 by edges ..
    pub linked : {g : ℕ} → Reached corners begins g → Linked (Edge T) 0 g
    linked first = self
    linked (arc r l) = link (linked r) (edge l) (opposite l)

    -- .. and the other way round
    pub unlinked : {g : ℕ} → Linked (Edge T) 0 g → Reached corners begins g
    unlinked self = first
    unlinked (link a o i) =
        let (x, r) = edge-runs points laid o in
        let (y, t) = edge-runs points laid i in
        let k : Reached corners begins (facet_across corners begins x) = arc {p = x} (rw r.names.facet (unlinked a)) r.names.below in
        rw (ap (home_of begins) (crossed r t) ∙ t.names.facet) at k

    one_ring : {v : ℕ} → v < vertices points → Used (vertices points) corners → OneRing corners begins v → Ring (Corner T) (Edge T) v
    one_ring {v} h U o =
        let (p, l, s) = U.somewhere v h in
        record {
          start = home_of begins p;
          at_start = names_corner points laid (record { below = l; facet = refl; starts = s });
          reached = λ c.
              let (q, n) = corner-names points laid c in
              let (j, e) = o.met p q l n.below s n.starts in
              rw (← n.facet, ← e) (around l s j).2;
        }

  same_place : {f i g j : ℕ} → Place T f i → Place T g j → begin begins f + i ≡ begin begins g + j → (f ≡ g) × (i ≡ j)
  same_place p q e =
      let s = sym (place-names points laid p).facet ∙ ap (home_of begins) e ∙ (place-names points laid q).facet in
      (s, omega (arith, e, ap (begin begins) s))

  pub is_closed : Shut (vertices points) corners begins → Closed T
  is_closed N =
      let U = unused-used N.no_5 in
      let P = pair-none laid N.no_6 in
      record {
        no_repeat = λ p q e.
            let a = place-names points laid p in
            let b = place-names points laid q in
            let one = repeat-single laid N.no_4 in
            (same_place p q (one.repeats _ _ a.below b.below (a.facet ∙ sym b.facet) (a.starts ∙ e ∙ sym b.starts))).1;
        used = λ w l. let (p, b, e) = U.somewhere w l in (home_of begins p, names_corner points laid (record { below = b; facet = refl; starts = e }));
        once = λ p q e s.
            let a = place-runs points laid p in
            let b = place-runs points laid q in
            let starts = a.names.starts ∙ e ∙ sym b.names.starts in
            same_place p q (edge-once P a.names.below b.names.below starts (a.ends ∙ s ∙ sym b.ends));
        reverse = λ p. let a = place-runs points laid p in (_, rw (a.names.starts, a.ends) at (opposite P a.names.below));
        ring = λ v l. one_ring P l U (ring-means laid P (vertices points) N.no_7 v l);
        reached = λ f l. linked P (apart-means laid P N.no_8 f l);
      }

  -- ---- and from the surface to the searches

  corner-is : {f i p : ℕ} → Place T f i → begin begins f + i ≡ p → T.corner f i ≡ from corners p
  corner-is t e = sym (place-names points laid t).starts ∙ ap (from corners) e

  next-is : {f i p : ℕ} → Place T f i → begin begins f + i ≡ p → next T f i ≡ to corners begins p
  next-is t e = sym (place-runs points laid t).ends ∙ ap (to corners begins) e

  module _ (C : Closed T) where
    single : Single corners begins
    single = record {
      repeats = λ p q l m h s.
          let (i, a, x) = names_place points laid (record { below = l; facet = h; starts = s }) in
          let (j, b, y) = names_place points laid (record { below = m; facet = refl; starts = refl }) in
          omega (arith, x, y, C.no_repeat a b (corner-is a x ∙ s ∙ sym (corner-is b y)));
    }

    used : Used (vertices points) corners
    used = record { somewhere = λ v l. let (p, n) = corner-names points laid (C.used v l).1 in (p, n.below, n.starts) }

    matched : Matched corners begins
    matched = record {
      once = λ p q l m s e.
          let (i, a, x) = names_place points laid (runs_at l).names in
          let (j, b, y) = names_place points laid (runs_at m).names in
          let (f, k) = C.once a b (corner-is a x ∙ s ∙ sym (corner-is b y)) (next-is a x ∙ e ∙ sym (next-is b y)) in
          omega (arith, x, y, k, ap (begin begins) f);
      reverse = λ p l.
          let (i, a, x) = names_place points laid (runs_at l).names in
          let (q, r) = edge-runs points laid (C.reverse a).1 in
          (q, record { below = r.names.below; starts = r.names.starts ∙ next-is a x; ends = r.ends ∙ corner-is a x });
    }

    P : Paired corners begins
    P = paired_if matched

    stepped : {f v p g q : ℕ} → Names corners begins f v p → Around (Edge T) v f g → Names corners begins g v q → RoundTo corners begins p q
    unfolding iterate round_of
    stepped n here m = (0, single.repeats _ _ n.below m.below (n.facet ∙ sym m.facet) (n.starts ∙ sym m.starts))
    stepped n (hop a o i) m =
        let (x, r) = edge-runs points laid o in
        let (y, t) = edge-runs points laid i in
        let (j, z) = stepped n a r.names in
        let b = t.names.below in
        let e = single.repeats _ _ (next-below laid b) m.below (next-home laid b ∙ t.names.facet ∙ sym m.facet) (t.ends ∙ sym m.starts) in
        (suc j, ap (round_of corners begins) z ∙ ap (next_of begins) (crossed P r t) ∙ e)

  pub shut : Closed T → Shut (vertices points) corners begins
  shut C = record {
    no_4 = single-repeat laid (single C);
    no_5 = used_unused (used C);
    no_6 = means_pair laid (matched C);
    no_7 = nowhere_is (λ v l.
        let R = C.ring v l in
        let (p, n) = corner-names points laid R.at_start in
        ring-from laid (P C) v n.below n.starts
        (λ q b s.
        let m : Names corners begins (home_of begins q) v q = record { below = b; facet = refl; starts = s } in
        stepped C n (R.reached (names_corner points laid m)) m));
    no_8 = means_apart laid (P C) (λ f l. unlinked (P C) (C.reached f l));
  }

  pub closed_exactly : Shut (vertices points) corners begins ↔ Closed T
  closed_exactly = (is_closed, shut)
