-- A tape that is read is the tape of the tables that its records hold. Assumes nothing.
use Rattle.std.specs.Prelude.{◌≡◌, ℤ, pos, length, get_or, take, drop}
use Rattle.std.proofs.Math.Path.{refl, sym, ap, ap₂}
use Rattle.std.proofs.Common.{◌∙◌, add-one, mul-div_cancel, lit<, drop-cons, drop-drop, take-add, take_all, take_at, drop_at, SFits}
use mathlib.Core.List.{List, [], ◌∷◌, ◌++◌, append_assoc, append-nil}
use Prim.Native.Nat.{ℕ, zero, suc, ◌+◌, ◌*◌, ◌≤◌, ◌<◌}
use native.Mathlib.Omega.{arith}
use Rattle.std.proofs.Math.Nat.{add-zero}
use Rattle.std.proofs.Math.ListN.{get_or-append}
use Rattle.std.proofs.Math.Seq.{get_or-append-add}
use Rattle.std.specs.Int.{w16}
use Rattle.std.proofs.Math.Facts.{sfits_lit}
use Rattle.points.specs.Points.{vertices, coord_of}
use Rattle.tables.specs.Tables.{facets, begin, sides, facet_of}
use Rattle.tape.specs.Little.{Bytes, unsigned_at, bytes-number, number_fits, bits-signed, signed-fits}
use Rattle.whole.specs.Joined.{joined, joined-0, joined_same, joined-split, length-listed, get_d_listed}
use Rattle.tape.specs.Records.{facet, framed, packed, bytes, point_of, point_bytes, facet_bytes, packed-append, packed-one, Fits16, Divided}
use Rattle.tape.specs.Tape.{ending, tape}
use Rattle.tape.specs.Reading.{coords_at, numbers_at, points_at, place, facet_from, corners_at, begins_at, length-points_at}
use Rattle.tape.specs.Whole.{Facets, Whole, place_0, place_more, place_rises, length_from, corners_more, facet_inside}
use Rattle.trips.specs.Taped.{Sixteen, sixteen_one, sixteen_joined, Taped}

-- pieces of a list that stand one after the other
pub pieces : (s : List ℕ) (at size : ℕ → ℕ) (n : ℕ) → ((k : ℕ) → k < n → at (k + 1) ≡ at k + size k)
    → take (at n) s ≡ take (at 0) s ++ joined (λ k. take (size k) (drop (at k) s)) n
unfolding joined
pieces s at size zero h = rw append-nil
pieces s at size (suc n) h =
    ap (λ (k : ℕ). take k s) (ap at (sym (add-one n)) ∙ h n (omega arith)) ∙ take-add (at n) (size n) s
    ∙ ap (λ (l : List ℕ). l ++ take (size n) (drop (at n) s)) (pieces s at size n (λ k l. h k (omega arith))) ∙ append_assoc (take (at 0) s) _ _

module _ (s : List ℕ) (i : ℕ) where
  pub numbers_2 : numbers_at s i 2 ≡ unsigned_at s i ∷ unsigned_at s (i + 2) ∷ []
  unfolding joined
  numbers_2 = rw add-zero

  pub numbers_3 : numbers_at s i 3 ≡ unsigned_at s i ∷ unsigned_at s (i + 2) ∷ unsigned_at s (i + 4) ∷ []
  unfolding joined
  numbers_3 = rw add-zero

module _ {s : List ℕ} (b : Bytes s) where
  -- the numbers of a body, as bytes again
  packed-numbers : (i n : ℕ) → i + 2 * n ≤ length s → packed (numbers_at s i n) ≡ take (2 * n) (drop i s)
  unfolding joined packed
  packed-numbers i zero h = refl
  packed-numbers i (suc n) h =
      let d : 2 * suc n ≡ 2 * n + 2 = omega arith in
      packed-append (numbers_at s i n) (unsigned_at s (i + 2 * n) ∷ [])
      ∙ ap₂ (λ (a c : List ℕ). a ++ c) (packed-numbers i n (omega arith))
      (packed-one (unsigned_at s (i + 2 * n)) ∙ bytes-number b 2 (i + 2 * n) (omega arith) ∙ ap (take 2) (sym (drop-drop (2 * n) i s)))
      ∙ sym (rw d (take-add (2 * n) 2 (drop i s)))

  -- a whole record
  framed-numbers : (at n : ℕ) {kind : ℕ} → get_or s at 0 ≡ kind → at + (1 + 2 * n) ≤ length s
      → framed kind (numbers_at s (at + 1) n) ≡ take (1 + 2 * n) (drop at s)
  framed-numbers at n e h =
      let d : 1 + 2 * n ≡ suc (2 * n) = omega arith in
      let a : at < length s = omega arith in
      rw (d, drop-cons s at 0 a, packed-numbers (at + 1) n (omega arith), add-one, e)

-- the tables of a tape that is read
module _ {s : List ℕ} (b : Bytes s) {v f c : ℕ} (w : Whole s v f c) where
  abbrev points : List ℤ
  points = points_at s 0 v

  abbrev corners : List ℕ
  corners = corners_at s (7 * v) f

  abbrev begins : List ℕ
  begins = begins_at s (7 * v) (f + 1)

  pub count_points : vertices points ≡ v
  count_points = rw (length-points_at, mul-div_cancel v {n = 3} (lit< tt))

  pub count_facets : facets begins ≡ f
  count_facets = rw length-listed (omega arith)

  -- ---- the points

  coord : (k j : ℕ) → k < v → j < 3 → coord_of points k j ≡ get_or (coords_at s (0 + 7 * k + 1)) j (pos 0)
  unfolding coord_of
  coord k j l h =
      let r = joined-split (λ k. coords_at s (0 + 7 * k + 1)) k v l in
      rw (r.1, ← length-points_at s 0 k, get_or-append-add (points_at s 0 k) _ j (pos 0)) (get_or-append (coords_at s (0 + 7 * k + 1)) r.0 (pos 0) j h)

  point-bytes : (k : ℕ) → k < v → bytes (point_of points k) ≡ take 7 (drop (7 * k) s)
  point-bytes k l =
      let e : 0 + 7 * k ≡ 7 * k = omega arith in
      let i = 7 * k + 1 in
      let inside : 7 * k + 7 ≤ length s = omega (arith, place_rises s (7 * v) 0 f (omega arith), place_0 s (7 * v), w.records.facets.inside) in
      rw (
        coord k 0 l (lit< tt),
        coord k 1 l (lit< tt),
        coord k 2 l (lit< tt),
        e,
        bits-signed (number_fits b i),
        bits-signed (number_fits b (i + 2)),
        bits-signed (number_fits b (i + 4)),
        ← numbers_3 s i,
      )
      (framed-numbers b (7 * k) 3 (rw e at (w.records.kinds k l)) inside)

  point-pieces : take (7 * v) s ≡ point_bytes points v
  point-pieces =
      pieces s (λ k. 7 * k) (λ k. 7) v (λ k l. omega arith) ∙ sym (joined_same (λ k. bytes (point_of points k)) (λ k. take 7 (drop (7 * k) s)) v point-bytes)

  -- ---- the facets

  begin-is : (k : ℕ) → k ≤ f → begin begins k ≡ length (corners_at s (7 * v) k)
  begin-is k l = get_d_listed (λ k. length (corners_at s (7 * v) k)) (f + 1) k 0 (omega arith)

  end_is : (k : ℕ) → k < f → begin begins (k + 1) ≡ length (corners_at s (7 * v) k) + get_or s (place s (7 * v) k) 0
  end_is k l = begin-is (k + 1) (omega arith) ∙ corners_more s (7 * v) k

  facet-is : (k : ℕ) → k < f → facet_of corners begins k ≡ facet_from s (7 * v) k
  facet-is k l =
      let r = joined-split (facet_from s (7 * v)) k f l in
      let a = begin-is k (omega arith) in
      let n : sides begins k ≡ length (facet_from s (7 * v) k) = rw (a, end_is k l, length_from) (omega arith) in
      rw (n, a, r.1, drop_at (corners_at s (7 * v) k) (facet_from s (7 * v) k ++ r.0) (length (corners_at s (7 * v) k)) refl)
      (take_at (facet_from s (7 * v) k) r.0 (length (facet_from s (7 * v) k)) refl)

  -- where facet k's record starts, and how long it is
  abbrev at : ℕ → ℕ
  at k = place s (7 * v) k

  abbrev size : ℕ → ℕ
  size k = 1 + 2 * get_or s (at k) 0

  facet-bytes : (k : ℕ) → k < f → bytes (facet (facet_of corners begins k)) ≡ take (size k) (drop (at k) s)
  facet-bytes k l =
      rw (facet-is k l, length_from)
      (framed-numbers b (at k) (get_or s (at k) 0) refl (facet_inside w.records.facets l))

  facet-pieces : take (place s (7 * v) f) s ≡ take (7 * v) s ++ facet_bytes corners begins f
  facet-pieces =
      pieces s at size f (λ k l. place_more s (7 * v) k)
      ∙ ap₂ (λ (x y : List ℕ). x ++ y) (ap (λ (k : ℕ). take k s) (place_0 s (7 * v)))
      (sym (joined_same (λ k. bytes (facet (facet_of corners begins k))) (λ k. take (size k) (drop (at k) s)) f facet-bytes))

  -- ---- the end

  end-bytes : take 5 (drop (place s (7 * v) f) s) ≡ ending v f
  end-bytes =
      let at = place s (7 * v) f in
      let e : at + 1 + 2 ≡ at + 3 = omega arith in
      sym (framed-numbers b at 2 w.ends.kind (omega (arith, w.ends.last))) ∙ rw (numbers_2, e, w.ends.points, w.ends.facets)

  same : s ≡ tape points corners begins
  same =
      let at = place s (7 * v) f in
      sym (take_all (at + 5) s (omega (arith, w.ends.last))) ∙ take-add at 5 s
      ∙ rw (facet-pieces, point-pieces, end-bytes, count_points, count_facets)

  -- ---- what the tables have

  placed : Fits16 points
  placed = record {
    few = rw count_points w.records.few;
    fits = λ k j l h. let m : k < v = rw count_points at l in rw (coord k j m h) (three (0 + 7 * k + 1) j);
  }
    where
      three : (i j : ℕ) → SFits w16 (get_or (coords_at s i) j (pos 0))
      three i zero = signed-fits (number_fits b i)
      three i (suc zero) = signed-fits (number_fits b (i + 2))
      three i (suc (suc zero)) = signed-fits (number_fits b (i + 4))
      three i (suc (suc (suc j))) = sfits_lit tt

  is_divided : Divided corners begins
  is_divided = record {
    some = rw length-listed (omega arith);
    most = rw length-listed (omega (arith, h.few));
    short = h.short;
    start = rw (begin-is 0 (omega arith), joined-0);
    finish = rw count_facets (begin-is f (omega arith));
    rise = λ k l. let m : k < f = rw count_facets at l in rw (begin-is k (omega arith), end_is k m) (omega (arith, h.least k m));
    narrow = λ k l. let m : k < f = rw count_facets at l in rw (begin-is k (omega arith), end_is k m) (omega (arith, h.most k m));
  }
    where
      h : Facets s (7 * v) f
      h = w.records.facets

  sixteen_from : (k : ℕ) → Sixteen (facet_from s (7 * v) k)
  sixteen_from k =
      let i = place s (7 * v) k + 1 in
      sixteen_joined (λ j. unsigned_at s (i + 2 * j) ∷ []) (λ j. sixteen_one (number_fits b (i + 2 * j)).fits) (get_or s (place s (7 * v) k) 0)

  pub whole_taped : Taped s points corners begins
  whole_taped = record {
    holds = record {
      threes = rw (count_points) (length-points_at s 0 v);
      placed = placed;
      divided = is_divided;
      numbers = λ k l. let m : k < f = rw count_facets at l in rw (facet-is k m) (sixteen_from k);
    };
    same = same;
  }
