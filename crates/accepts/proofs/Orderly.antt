-- 1 to 3 in plain quantifiers: exactly orderly tables pass them. Assumes nothing.
use Rattle.std.specs.Prelude.{◌≡◌, refl, ◌↔◌, not, List, ℕ, zero, suc, ◌+◌, ◌*◌, ◌/◌, ◌%◌, ◌<◌, eqb, ℤ, pos, get_or}
use Rattle.std.proofs.Math.Bool.{false}
use Rattle.std.proofs.Common.{arith}
use Rattle.std.proofs.Math.ListN.{length}
use borrow.Author.Tests.{eq-eqb, eqb-true, le-ltb, not-false}
use Rattle.whole.specs.First.{any_none}
use Rattle.whole.specs.Count.{neither}
use Rattle.whole.specs.Bounds.{◌within◌, within-between, within-high, within_low}
use Rattle.points.specs.Points.{Ranged, coord_of}
use Rattle.points.specs.Range.{limit}
use Rattle.tables.specs.Size.{wrong_lengths, is_size}
use Rattle.tables.specs.Places.{Sound}
use Rattle.tables.specs.Search.{of_all, never_applies}
use Rattle.bridge.specs.Lower.{sound_index}
use Rattle.bridge.specs.Surface.{tables_of}
use Rattle.limits.specs.Rules.{limits_in}
use Rattle.limits.specs.InOrder.{InOrder}
use Rattle.solid.specs.Tables.{Convex}
use Rattle.stages.specs.Known.{measured}
use Rattle.judge.specs.Judge.{judged}
use Rattle.accepts.specs.Meaning.{accepts_exactly}
use Rattle.accepts.specs.Numbers.{Pass, in_order as order-of}
use Rattle.accepts.specs.Orderly.{Orderly}

-- entry i of the points is coordinate i % 3 of vertex i / 3
entry : (points : List ℤ) → length points % 3 ≡ 0 → Ranged points → (i : ℕ) → i < length points → get_or points i (pos 0) within limit
unfolding coord_of
entry points z R i l =
    let e : i / 3 * 3 + i % 3 ≡ i = omega arith in
    rw e at (R (i / 3) (i % 3) (omega arith) (omega arith))

module _ {points : List ℤ} {corners begins : List ℕ} where
  in_order : Orderly points corners begins → InOrder points corners begins
  unfolding is_size coord_of
  in_order o = record { sizes = sizes; ranges = limits_in points ranged; numbers = sound_index sound }
    where
      sizes : is_size points corners begins ≡ false
      sizes = rw (
        eq-eqb _ _ o.threes,
        le-ltb _ _ o.many_vertices,
        le-ltb _ _ o.few_vertices,
        le-ltb _ _ o.many_facets,
        le-ltb _ _ o.few_facets,
        le-ltb _ _ o.few_corners,
        eq-eqb _ _ o.start,
        eq-eqb _ _ o.finish,
      ) (any_none _ _ (λ f l. let (a, b) = o.sides f (omega arith) in rw (le-ltb _ (get_or begins f 0 + 3) a, le-ltb (get_or begins f 0 + 12) _ b)))

      ranged : Ranged points
      ranged v k l h = let (a, b) = o.coordinates (v * 3 + k) (omega arith) in within-between _ _ a b

      sound : Sound (length points / 3) corners begins
      sound = record {
        many = o.many_vertices;
        laid = record {
          some = o.many_facets;
          most = o.few_facets;
          short = o.few_corners;
          start = o.start;
          finish = o.finish;
          rise = λ f l. (o.sides f l).0;
          narrow = λ f l. (o.sides f l).1;
        };
        named = record { few = o.few_vertices; short = o.few_corners; index = o.numbers };
      }

  orderly : InOrder points corners begins → Orderly points corners begins
  unfolding is_size
  orderly o =
      let m = measured o in
      let s = m.sound in
      let (lengths, rest) = neither (wrong_lengths (length points) (length corners) (length begins)) _ o.sizes in
      let (threes, others) = neither (not (eqb (length points % 3) 0)) _ lengths in
      let z : length points % 3 ≡ 0 = eqb-true _ _ (not-false _ threes) in
      record {
        threes = z;
        many_vertices = s.many;
        few_vertices = s.named.few;
        many_facets = s.laid.some;
        few_facets = s.laid.most;
        few_corners = s.laid.short;
        start = s.laid.start;
        finish = s.laid.finish;
        sides = λ f l. (s.laid.rise f l, s.laid.narrow f l);
        coordinates = λ i l. let w = entry points z m.ranged i l in (within_low w, within-high w);
        numbers = s.named.index;
      }

  pub orderly_exactly : InOrder points corners begins ↔ Orderly points corners begins
  orderly_exactly = (orderly, in_order)

-- so exactly such tables pass the numbers below 4
pub limits_exactly : (points : List ℤ) (corners begins : List ℕ) → Pass points corners begins 4 ↔ Orderly points corners begins
limits_exactly points corners begins = (λ P. orderly (order-of points corners begins P (omega arith)), λ W. below (in_order W))
  where
    below : InOrder points corners begins → Pass points corners begins 4
    below o zero l = refl
    below o (suc zero) l = never_applies (of_all (is_size points corners begins)) o.sizes
    below o (suc (suc zero)) l = o.ranges
    below o (suc (suc (suc zero))) l = o.numbers
    below o (suc (suc (suc (suc k)))) l = absurd (omega arith)

-- demand 2's sentence on acceptance, over these
pub accepts_orderly : (points : List ℤ) (corners begins : List ℕ)
    → (judged points corners begins).number ≡ 0 ↔ (Orderly points corners begins × Convex (tables_of points corners begins))
accepts_orderly points corners begins =
    let (to, back) = accepts_exactly points corners begins in
    (λ e. let (W, C) = to e in (orderly W, C), λ (W, C). back (in_order W, C))
