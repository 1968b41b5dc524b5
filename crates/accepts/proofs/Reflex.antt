-- 11, REFLEX: "some corner of the facet across this edge, other than the edge's ends, isn't strictly inside this facet's plane"; "lowest facet and then
-- lowest position". In tables that pass 1 to 10 one facet stands across each edge, and REFLEX names exactly the first such place. Assumes nothing.
use Rattle.std.specs.Prelude.{◌≡◌, ◌↔◌, ◌≢◌, cond, not, List, eqb, ℤ, length, Some}
use Rattle.std.proofs.Math.Path.{refl}
use Rattle.std.proofs.Common.{sym, ◌∙◌, inl, inr, arith}
use Rattle.std.proofs.Math.Bool.{Bool, true, false, true≢false}
use Prim.Native.Nat.{ℕ}
use Rattle.std.proofs.Math.Decide.{ℕ_discrete}
use borrow.Author.Tests.{eq-eqb, ne_eqb, not-true, ltb-true}
use Rattle.whole.specs.First.{first_below, any_below, first_holds, any_is}
use Rattle.whole.specs.Count.{is_false}
use Rattle.sides.specs.Sides.{is_inside, inside_below, below_inside}
use Rattle.tables.specs.Tables.{facet_of}
use Rattle.tables.specs.Size.{Laid}
use Rattle.tables.specs.Places.{part_length}
use Rattle.tables.specs.Search.{place_of, applies_first, first_applies, applies_never}
use Rattle.answers.specs.Answer.{fault}
use Rattle.pair.specs.Pair.{Paired}
use Rattle.flat.specs.Rules.{side_at}
use Rattle.limits.specs.InOrder.{laid}
use Rattle.bridge.specs.Surface.{tables_of}
use Rattle.solid.specs.Tables.{Tables, Place, Corner, Closed, next}
use Rattle.shape.specs.Flat.{next-is}
use Rattle.shape.specs.Folds.{facing, opposite}
use Rattle.reflex.specs.Rules.{is_not_inside, is_reflex, reflex}
use Rattle.judge.specs.Judge.{judged}
use Rattle.accepts.specs.Numbers.{Pass, some_place, answered_exactly, number_exactly, in_order, paired, closed}
use Rattle.accepts.specs.Reflex.{Before, Across as AcrossIn, OneAcross as OneAcrossIn, Reflex as ReflexIn, FirstReflex as FirstReflexIn}

-- a corner that is neither end and fails the test
other-fails : (c a b : ℕ) (x : Bool) → cond (eqb c a) false (cond (eqb c b) false (not x)) ≡ true → (c ≢ a) × (c ≢ b) × (x ≡ false)
other-fails c a b x e = elim (ℕ_discrete c a) [
  | yes s ↦ absurd (true≢false (sym e ∙ rw (eq-eqb c a s)))
  | no ca ↦ elim (ℕ_discrete c b) [
    | yes s ↦ absurd (true≢false (sym e ∙ rw (ne_eqb c a ca, eq-eqb c b s)))
    | no cb ↦ (ca, cb, not-true x (rw (ne_eqb c a ca, ne_eqb c b cb) at e))
  ]
]

fails_other : (c a b : ℕ) (x : Bool) → c ≢ a → c ≢ b → x ≡ false → cond (eqb c a) false (cond (eqb c b) false (not x)) ≡ true
fails_other c a b x ca cb e = rw (ne_eqb c a ca, ne_eqb c b cb, e)

module _ (points : List ℤ) (corners begins : List ℕ) where
  abbrev t : Tables
  t = tables_of points corners begins

  open t use {corner}

  abbrev pub Across : ℕ → ℕ → ℕ → ℕ → Type 0
  Across = AcrossIn points corners begins

  abbrev pub OneAcross : ℕ → ℕ → Type 0
  OneAcross = OneAcrossIn points corners begins

  abbrev pub Reflex : ℕ → ℕ → Type 0
  Reflex = ReflexIn points corners begins

  abbrev pub FirstReflex : ℕ → ℕ → Type 0
  FirstReflex = FirstReflexIn points corners begins

  module _ (P : Pass points corners begins 11) where
    L : Laid corners begins
    L = laid (in_order points corners begins P (omega arith))

    M : Paired corners begins
    M = paired points corners begins P (omega arith)

    C : Closed t
    C = closed points corners begins P (omega arith)

    pub one_across : {f p : ℕ} → Place t f p → OneAcross f p
    one_across {f} {p} l =
        let (q, k, o) = opposite points L M l in
        record {
          facet = facing points L f p;
          position = q;
          across = record { place = k; starts = o.start; ends = o.end };
          only = λ a. C.once a.place k (a.starts ∙ sym o.start) (a.ends ∙ sym o.end);
        }

    -- the test of one place
    module _ {f p : ℕ} where
      test_of : Reflex f p → is_reflex points corners begins f p ≡ true
      unfolding is_reflex one_across
      test_of r =
          let g = (one_across r.place).facet in
          let s : r.facet ≡ g = ((one_across r.place).only r.across).0 in
          let c : Corner t g r.vertex = rw s at r.corner_of in
          let e : corner g c.i ≡ r.vertex = c.names in
          let x : is_inside (side_at points (facet_of corners begins f) r.vertex) ≡ false = is_false _ (λ i. r.not_inside (inside_below _ i)) in
          rw (next-is points L f p r.place.facet)
          (any_is _ (length (facet_of corners begins g)) c.i (rw (part_length L c.place.facet) c.place.position)
          (rw e (fails_other _ _ _ _ r.not_start r.not_end x)))

      applies : Place t f p → is_reflex points corners begins f p ≡ true → Reflex f p
      unfolding is_reflex one_across
      applies l e =
          let o = one_across l in
          let other = facet_of corners begins o.facet in
          let test : ℕ → Bool = λ m.
          is_not_inside points (facet_of corners begins f) (corner f p) (next t f p) (corner o.facet m) in
          let e : any_below test (length other) ≡ true = rw (next-is points L f p l.facet) at e in
          let m = first_below test (length other) in
          let h = ltb-true m (length other) e in
          let k : Place t o.facet m = record { facet = o.across.place.facet; position = omega (arith, part_length L o.across.place.facet) } in
          let (a, b, x) = other-fails _ _ _ _ (first_holds test (length other) h) in
          record {
            place = l;
            facet = o.facet;
            position = o.position;
            across = o.across;
            vertex = corner o.facet m;
            corner_of = record { i = m; place = k; names = refl };
            not_start = a;
            not_end = b;
            not_inside = λ i. true≢false (sym (below_inside i) ∙ x);
          }

      pub applies_exactly : Place t f p → is_reflex points corners begins f p ≡ true ↔ Reflex f p
      applies_exactly l = (applies l, test_of)

    pub reflex_exactly : (f p : ℕ) → place_of (reflex points corners begins) ≡ Some (f, p) ↔ FirstReflex f p
    reflex_exactly f p = (
      λ e.
          let h = applies_first (reflex points corners begins) e in
          let before : (g q : ℕ) → Before g q f p → ¬ Reflex g q = λ g q b r.
          elim b [
            | inl l ↦ true≢false (sym (test_of r) ∙ h.earlier g q l r.place.position)
            | inr (s, l) ↦ true≢false (sym (rw s at (test_of r)) ∙ h.place.before q (omega arith))
          ]
          in
          record {
            here = applies (record { facet = h.facet; position = h.place.below }) h.place.holds;
            before = before;
          },
      λ r. first_applies (reflex points corners begins) (record {
        facet = r.here.place.facet;
        place = record {
          below = r.here.place.position;
          holds = test_of r.here;
          before = λ q l. is_false _ (λ e. r.before f q (inr (refl, l))
              (applies (record { facet = r.here.place.facet; position = omega (arith, r.here.place.position) }) e));
        };
        earlier = λ g q l k. is_false _ (λ e. r.before g q (inl l)
            (applies (record { facet = omega (arith, r.here.place.facet); position = k }) e));
      }),
    )

    -- where it applies, some place is named
    named : {f p : ℕ} → Reflex f p → (a b : ℕ) × (place_of (reflex points corners begins) ≡ Some (a, b))
    named {f} {p} r =
        some_place (λ e.
        let none = applies_never (reflex points corners begins) e in
        true≢false (sym (test_of r) ∙ none f p r.place.facet r.place.position))

  -- the judge answers 11 exactly when the tables pass 1 to 10 and REFLEX applies somewhere ..
  pub number_reflex : (judged points corners begins).number ≡ 11 ↔ (Pass points corners begins 11 × (f p : ℕ) × Reflex f p)
  number_reflex =
      let (to, back) = number_exactly points corners begins 11 (omega arith) in
      (λ e. let (P, f, p, h) = to e in (P, f, p, ((reflex_exactly P f p).0 h).here), λ (P, f, p, r). let (a, b, h) = named P r in back (P, a, b, h))

  -- .. and names f and p exactly when this is the first place
  pub judged-reflex : (f p : ℕ) → judged points corners begins ≡ fault 11 f p ↔ (Pass points corners begins 11 × FirstReflex f p)
  judged-reflex f p =
      let (to, back) = answered_exactly points corners begins 11 (omega arith) f p in
      (λ e. let (P, a) = to e in (P, (reflex_exactly P f p).0 a), λ (P, a). back (P, (reflex_exactly P f p).1 a))
