-- What FEW and RANGE leave: pairs, their number and the coordinates within the limits. Assumes nothing.
use Rattle.std.specs.Prelude.{◌≡◌, false, not, ◌||◌, List, ℕ, ◌+◌, ◌*◌, ◌/◌, ◌%◌, ◌<◌, ltb, eqb, ℤ, pos, length, get_or}
use Rattle.std.proofs.Common.{subst, arith, ltb-false, eqb-true, le-ltb, eq-eqb}
use Rattle.std.proofs.Math.Decide.{ℕ_discrete}
use Rattle.std.proofs.lemmas.Bool.{not-false}
use Rattle.whole.specs.First.{Nowhere}
use Rattle.whole.specs.Count.{neither}
use Rattle.points.specs.Range.{is_out, InRange, not_out, all_in}
use Rattle.once_round.specs.Words.{count, coord_of, few, out_of_range, Counted}

pub counted : (points : List ℤ) → few (length points) ≡ false → Counted points
unfolding few
counted points e =
    let a = neither (not (eqb (length points % 2) 0)) (ltb (count points) 3 || ltb 4096 (count points)) e in
    let b = neither (ltb (count points) 3) (ltb 4096 (count points)) a.1 in
    record {
      pairs = eqb-true (length points % 2) 0 (not-false (eqb (length points % 2) 0) a.0);
      least = ltb-false (count points) 3 b.0;
      most = ltb-false 4096 (count points) b.1;
    }

pub not_few : (points : List ℤ) → Counted points → few (length points) ≡ false
unfolding few
not_few points c = rw (eq-eqb (length points % 2) 0 c.pairs, le-ltb (count points) 3 c.least, le-ltb 4096 (count points) c.most)

pub none_out : (points : List ℤ) → InRange points → (i : ℕ) → out_of_range points i ≡ false
unfolding coord_of
none_out points h i = rw (not_out (coord_of points i 0) (h (i * 2 + 0)), not_out (coord_of points i 1) (h (i * 2 + 1)))

pub in_range : (points : List ℤ) → Counted points → Nowhere (out_of_range points) (count points) → InRange points
unfolding coord_of
in_range points c h = all_in points (λ k l. cases k l (ℕ_discrete (k % 2) 0))
  where
    each : (k : ℕ) → k < length points → (is_out (coord_of points (k / 2) 0) ≡ false) × (is_out (coord_of points (k / 2) 1) ≡ false)
    each k l = neither (is_out (coord_of points (k / 2) 0)) (is_out (coord_of points (k / 2) 1)) (h (k / 2) (omega (arith, c.pairs)))

    cases : (k : ℕ) → k < length points → Dec (k % 2 ≡ 0) → is_out (get_or points k (pos 0)) ≡ false
    cases k l (yes d) = let q : k / 2 * 2 + 0 ≡ k = omega arith in subst (λ j. is_out (get_or points j (pos 0)) ≡ false) q (each k l).0
    cases k l (no d) = let q : k / 2 * 2 + 1 ≡ k = omega arith in subst (λ j. is_out (get_or points j (pos 0)) ≡ false) q (each k l).1
