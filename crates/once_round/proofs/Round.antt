-- The lent points as a ring, and the judge's tests and their meaning as facts of that ring. Assumes nothing.
use Rattle.std.specs.Prelude.{◌≡◌, refl, true, false, List, ◌⊎◌, ◌≢◌, ◌↔◌, ℤ, pos}
use Rattle.std.proofs.Common.{sym, ◌∙◌, true≢false, inl, inr, mod-lt, add-one}
use Rattle.std.proofs.Math.Path.{ap, ap₂, subst, subst₃}
use Rattle.std.proofs.Math.Bool.{◌&&◌}
use Prim.Native.Nat.{ℕ, suc, ◌+◌, ◌-◌, ◌*◌, ◌%◌, ◌≤◌, ◌<◌}
use Rattle.std.proofs.Math.Nat.{mod-eq_of_lt, mod-add-mod, add-mod_right, mod-eq-sub-mod, mod_self}
use Rattle.std.proofs.Math.Decide.{dec_lt}
use native.Mathlib.Omega.{arith}
use Rattle.std.specs.Int.Signed.{lt_z, <ℤ_irrefl}
use Rattle.whole.specs.Order.{lt_z_true, true_lt_z}
use Rattle.whole.specs.Bounds.{◌within◌}
use Rattle.whole.specs.First.{first_below, never, first_holds}
use Rattle.whole.specs.Count.{both}
use Rattle.space.specs.Plane.{Vec, det}
use Rattle.points.specs.Range.{limit, InRange}
use Rattle.once_round.specs.Words.{count, point, coord_of, before, after, is_left, left, is_greater, far, Limits, LocallyConvex, LeftOf, AllLeft}
use Rattle.once_round.specs.Greater.{down, greater, level}
use Rattle.once_round.specs.Second.{AtMostOne, One, exactly_one, at_most}
use Rattle.once_round.specs.Sides.{Side, rises_by, falls_by, still}
use Rattle.once_round.specs.Ring.{edge, Turns, Far, OneFar, Convex, convex, convex_turns, convex_one_far, some_far}

module _ (points : List ℤ) (three : 3 ≤ count points) where
  abbrev n : ℕ
  n = count points

  ring : ℕ → Vec ℤ
  ring i = point points (i % n)

  round : (i : ℕ) → ring (i + n) ≡ ring i
  unfolding ring
  round i = ap (point points) (add-mod_right i n)

  -- ---- the numbers of the points

  inside : (i : ℕ) → i % n < n
  inside i = mod-lt i (omega arith)

  after_is : (i : ℕ) → after n (i % n) ≡ suc i % n
  unfolding after
  after_is i = rw (mod-add-mod i n 1, add-one)

  before-is : (i : ℕ) → before n (suc i % n) ≡ i % n
  unfolding before
  before-is i = let e : suc i + (n - 1) ≡ i + n = omega arith in rw (mod-add-mod (suc i) n (n - 1), e) (add-mod_right i n)

  -- point j, as the one after another
  reached : (j : ℕ) → j < n → suc (j + (n - 1)) % n ≡ j
  reached j l = let e : suc (j + (n - 1)) ≡ j + n = omega arith in ap (λ k. k % n) e ∙ add-mod_right j n ∙ mod-eq_of_lt l

  -- within a round the numbers are different
  elsewhere : (i j : ℕ) → i < j → j < i + n → j % n ≢ i % n
  elsewhere i j a b e = elim (dec_lt (i % n + (j - i)) n) [
    | yes l ↦ let f = sym (mod-eq_of_lt l) ∙ e' in omega arith
    | no l ↦
        let f = sym (mod-eq_of_lt {n = i % n + (j - i) - n} {m = n} (omega (arith, inside i)))
        ∙ sym (mod-eq-sub-mod {n = i % n + (j - i)} {m = n} (omega arith)) ∙ e' in
        omega arith
  ]
    where
      e' : (i % n + (j - i)) % n ≡ i % n
      e' = let d : i + (j - i) ≡ j = omega arith in rw (mod-add-mod i n (j - i), d) e

  -- ---- LEFT

  left_is : (i : ℕ) → left points (suc i % n) ≡ lt_z (pos 0) (det (edge ring i) (edge ring (suc i)))
  unfolding ring
  left_is i = ap₂ (λ a c. is_left (point points a) (point points (suc i % n)) (point points c)) (before-is i) (after_is (suc i))

  all_turns : ((i : ℕ) → i < n → left points i ≡ true) → Turns ring
  all_turns h i = lt_z_true (pos 0) (det (edge ring i) (edge ring (suc i))) (sym (left_is i) ∙ h (suc i % n) (inside (suc i)))

  turns_all : Turns ring → (i : ℕ) → i < n → left points i ≡ true
  turns_all h j l = subst (λ k. left points k ≡ true) (reached j l) (left_is (j + (n - 1)) ∙ true_lt_z (h (j + (n - 1))))

  -- ---- WOUND

  module _ (range : InRange points) where
    height : ℕ → ℤ
    height i = det down (ring i)

    in_range : (i : ℕ) → (ring i).y within limit
    unfolding ring coord_of
    in_range i = range (i % n * 2 + 1)

    greater_is : (i j : ℕ) → is_greater (ring i) (ring j) ≡ lt_z (height j) (height i)
    unfolding height
    greater_is i j = greater (ring i) (ring j) (in_range i) (in_range j)

    far-is : (i : ℕ) → far points (suc i % n) ≡ (lt_z (height i) (height (suc i)) && lt_z (height (suc (suc i))) (height (suc i)))
    unfolding ring
    far-is i =
        ap₂ (λ a c. is_greater (ring (suc i)) (point points a) && is_greater (ring (suc i)) (point points c)) (before-is i) (after_is (suc i))
        ∙ ap₂ ◌&&◌ (greater_is (suc i) i) (greater_is (suc i) (suc (suc i)))

    to-far : (i : ℕ) → far points (suc i % n) ≡ true → Far down ring i
    unfolding height
    to-far i h =
        let e = both (lt_z (height i) (height (suc i))) (lt_z (height (suc (suc i))) (height (suc i))) (sym (far-is i) ∙ h) in
        record {
          up = (rises_by down (ring i) (ring (suc i))).0 (lt_z_true (height i) (height (suc i)) e.0);
          down = (falls_by down (ring (suc i)) (ring (suc (suc i)))).0 (lt_z_true (height (suc (suc i))) (height (suc i)) e.1);
        }

    from-far : (i : ℕ) → Far down ring i → far points (suc i % n) ≡ true
    unfolding height
    from-far i f =
        far-is i ∙ rw (true_lt_z ((rises_by down (ring i) (ring (suc i))).1 f.up), true_lt_z ((falls_by down (ring (suc i)) (ring (suc (suc i)))).1 f.down))

    -- no two points are far
    ring-one : AtMostOne (far points) n → OneFar down n ring
    ring-one h i j a b f g = elim (dec_lt (suc i % n) (suc j % n)) [
      | yes l ↦ h (suc i % n) (suc j % n) l (inside (suc j)) (from-far i f) (from-far j g)
      | no l ↦
          let d = elsewhere (suc i) (suc j) (omega arith) (omega arith) in
          h (suc j % n) (suc i % n) (omega arith) (inside (suc i)) (from-far j g) (from-far i f)
    ]

    one_ring : OneFar down n ring → AtMostOne (far points) n
    one_ring h a b l m p q = h (a + (n - 1)) (b + (n - 1)) (omega arith) (omega arith) (at a (omega arith) p) (at b m q)
      where
        at : (k : ℕ) → k < n → far points k ≡ true → Far down ring (k + (n - 1))
        at k l e = to-far (k + (n - 1)) (rw (reached k l) e)

    -- no edge is level, where every turn is left
    slope : Turns ring → (i : ℕ) → Side down true (edge ring i) ⊎ Side down false (edge ring i)
    slope h i = elim (level (ring i) (ring (suc i)) (in_range i) (in_range (suc i))) [
      | inl l ↦ inl ((rises_by down (ring i) (ring (suc i))).0 l)
      | inr (inl e) ↦ absurd (<ℤ_irrefl (rw (e, still (ring (suc i))) at (h i)))
      | inr (inr l) ↦ inr ((falls_by down (ring i) (ring (suc i))).0 l)
    ]

    far-exists : Turns ring → (k : ℕ) × (k < n) × (far points k ≡ true)
    far-exists h = elim (dec_lt (first_below (far points) n) n) [
      | yes l ↦ (first_below (far points) n, l, first_holds (far points) n l)
      | no l ↦
          absurd (some_far down n ring round (slope h) (omega arith)
          (λ i f. true≢false (sym (from-far i f) ∙ never (far points) n (omega arith) (suc i % n) (inside (suc i)))))
    ]

  -- ---- the meaning

  to-left : Convex n ring → AllLeft points
  unfolding ring after
  to-left h i j a b c d = elim (dec_lt i j) [
    | yes l ↦ left_of j (mod-eq_of_lt b) (omega (arith, mod-eq_of_lt {n = i + 1} {m = n} (omega arith))) (omega arith)
    | no l ↦ left_of (j + n) (add-mod_right j n ∙ mod-eq_of_lt b) (past_end (dec_lt (i + 1) n)) (omega arith)
  ]
    where
      past_end : Dec (i + 1 < n) → suc i < j + n
      past_end (yes l) = omega arith
      past_end (no l) = let e : i + 1 ≡ n = omega arith in let z : (i + 1) % n ≡ 0 = rw e (mod_self n) in omega arith

      -- point j, reached after edge i
      left_of : (k : ℕ) → k % n ≡ j → suc i < k → k < i + n → LeftOf points i (after n i) j
      left_of k e l m = subst₃ (LeftOf points) (mod-eq_of_lt a) (rw add-one refl) e (h i k l m)

  from-left : AllLeft points → Convex n ring
  unfolding ring
  from-left h i j a b =
      subst (λ k. LeftOf points (i % n) k (j % n)) (after_is i)
      (h (i % n) (j % n) (inside i) (inside j) (elsewhere i j (omega arith) b) (rw (after_is i) (elsewhere (suc i) j a (omega arith))))

-- ---- Theorem 5 of document 001, and what it leaves unsaid: some point is far

module _ (points : List ℤ) where
  pub theorem_5 : (LocallyConvex points × AtMostOne (far points) (count points)) ↔ (Limits points × AllLeft points)
  theorem_5 = (to, from)
    where
      to : LocallyConvex points × AtMostOne (far points) (count points) → Limits points × AllLeft points
      to (c, one) =
          let three = c.limits.counted.least in
          let range = c.limits.range in
          let turns = all_turns points three c.turns in (
            c.limits,
            to-left points three
                (convex down (count points) (ring points three) (round points three)
                (slope points three range turns) (ring-one points three range one) turns),
          )

      from : Limits points × AllLeft points → LocallyConvex points × AtMostOne (far points) (count points)
      from (l, h) =
          let three = l.counted.least in
          let all = from-left points three h in (
            record { limits = l; turns = turns_all points three (convex_turns down (count points) (ring points three) (round points three) three all) },
            one_ring points three l.range (convex_one_far down (count points) (ring points three) (round points three) three all),
          )

  pub one_far : (LocallyConvex points × AtMostOne (far points) (count points)) ↔ (LocallyConvex points × One (far points) (count points))
  one_far = (to, λ h. (h.0, at_most (far points) (count points) h.1))
    where
      to : LocallyConvex points × AtMostOne (far points) (count points) → LocallyConvex points × One (far points) (count points)
      to (c, one) =
          let three = c.limits.counted.least in
          let k = far-exists points three c.limits.range (all_turns points three c.turns) in
          (c, exactly_one (far points) (count points) k.0 one k.1 k.2)
