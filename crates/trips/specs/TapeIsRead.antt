-- The tape of tables is whole, and its records hold those tables. Assumes nothing.
use Rattle.std.specs.Prelude.{◌≡◌, ℤ, pos, get_or}
use Rattle.std.proofs.Math.Path.{refl, ap}
use Rattle.std.proofs.Common.{sym, ◌∙◌, lit<, length-append, take-suc, length-take-le}
use mathlib.Core.List.{List, [], ◌∷◌, ◌++◌, append_assoc, append-nil}
use Prim.Native.Nat.{ℕ, zero, suc, ◌+◌, ◌*◌, ◌≤◌, ◌<◌}
use native.Mathlib.Omega.{arith}
use Rattle.std.proofs.Math.Numerals.{add-one}
use Rattle.std.proofs.Math.ListN.{length, take}
use Rattle.std.proofs.Math.Seq.{drop-cons, take-add, take-length}
use Rattle.std.proofs.lemmas.List.{get_or_at}
use Rattle.points.specs.Points.{vertices, coord_of}
use Rattle.tables.specs.Tables.{facets, begin, sides, facet_of}
use Rattle.tape.specs.Little.{bytes_of, number_at, unsigned_at, bits, number_after, number_bytes, length-bytes, signed-bits, bits_fit}
use Rattle.whole.specs.Joined.{joined, listed, joined_same, joined-split}
use Rattle.tape.specs.Records.{facet, body, framed, packed, bytes, point_of, point_bytes, facet_bytes}
use Rattle.tape.specs.Records.{length-packed, length-points, length_facet, length_facets, begin_within}
use Rattle.tape.specs.Tape.{ending, tape, length-tape}
use Rattle.tape.specs.Reading.{coords_at, numbers_at, points_at, place, corners_at, begins_at}
use Rattle.tape.specs.Look.{IsEnd}
use Rattle.tape.specs.Whole.{Whole}
use Rattle.trips.specs.Taped.{Sixteen, sixteen_one, sixteen_append, Holds}
use Rattle.trips.specs.ReadIsTape.{numbers_2, numbers_3}

-- ---- a record that stands in a tape

-- number j of a body
packed-at : (ns post : List ℕ) → Sixteen ns → (j : ℕ) → j < length ns → number_at 2 (packed ns ++ post) (2 * j) ≡ get_or ns j 0
unfolding packed
packed-at [] post h j l = absurd (omega arith)
packed-at (n ∷ ns) post h zero l = rw append_assoc (number_bytes 2 n (packed ns ++ post) (h.small 0))
packed-at (n ∷ ns) post h (suc j) l =
    let e : 2 * suc j ≡ length (bytes_of 2 n) + 2 * j = rw length-bytes (omega arith) in
    rw (append_assoc, e, number_after 2 (bytes_of 2 n) (packed ns ++ post) (2 * j))
    (packed-at ns post (record { small = λ k. h.small (suc k) }) j (omega arith))

listed-take : (ns : List ℕ) (n : ℕ) → n ≤ length ns → listed (λ k. get_or ns k 0) n ≡ take n ns
unfolding joined
listed-take ns zero h = refl
listed-take ns (suc n) h = let l : n < length ns = omega arith in rw (listed-take ns n (omega arith), take-suc ns n 0 l)

-- a record of this kind and body at `at`
record StandsAt (s : List ℕ) (at kind : ℕ) (ns : List ℕ) : Type 0 where
  first : get_or s at 0 ≡ kind
  numbers : numbers_at s (at + 1) (length ns) ≡ ns
  inside : at + (1 + 2 * length ns) ≤ length s

stands : (pre : List ℕ) (kind : ℕ) (ns post : List ℕ) → Sixteen ns → StandsAt (pre ++ (framed kind ns ++ post)) (length pre) kind ns
stands pre kind ns post h =
    let l = packed ns ++ post in
    let s = pre ++ (kind ∷ l) in
    record {
      first = get_or_at pre kind l 0 (length pre) refl;
      numbers =
          joined_same (λ j. unsigned_at s (length pre + 1 + 2 * j) ∷ []) (λ j. get_or ns j 0 ∷ []) (length ns)
          (λ j k. let e : length pre + 1 + 2 * j ≡ length pre + (1 + 2 * j) = omega arith in
          ap (λ (x : ℕ). x ∷ [])
          (ap (number_at 2 s) e ∙ number_after 2 pre (kind ∷ l) (1 + 2 * j) ∙ number_after 2 (kind ∷ []) l (2 * j) ∙ packed-at ns post h j k))
          ∙ listed-take ns (length ns) (omega arith) ∙ take-length ns;
      inside = simp (length-append, length-packed) (omega arith);
    }

stands_at : {s : List ℕ} {at : ℕ} (pre : List ℕ) (kind : ℕ) (ns post : List ℕ) → Sixteen ns → s ≡ pre ++ (framed kind ns ++ post) → length pre ≡ at
    → StandsAt s at kind ns
stands_at pre kind ns post h e l = rw (e, ← l) (stands pre kind ns post h)

-- ---- the points

module _ {points : List ℤ} {corners begins : List ℕ} (h : Holds points corners begins) where
  abbrev s : List ℕ
  s = tape points corners begins

  stands_point : (v : ℕ) → v < vertices points → StandsAt s (7 * v) 1 (body (point_of points v))
  stands_point v l =
      let r = joined-split (λ k. bytes (point_of points k)) v (vertices points) l in
      stands_at (point_bytes points v) 1 (body (point_of points v))
      (r.0 ++ (facet_bytes corners begins (facets begins) ++ ending (vertices points) (facets begins)))
      (sixteen_append (small 0 (lit< tt)) (sixteen_append (small 1 (lit< tt)) (small 2 (lit< tt)))) (rw r.1 (simp append_assoc)) (length-points points v)
    where
      small : (k : ℕ) → k < 3 → Sixteen (bits (coord_of points v k) ∷ [])
      small k m = sixteen_one (bits_fit (h.placed.fits v k l m)).fits

  three : (v : ℕ) → v < vertices points
      → take (v * 3 + 3) points ≡ take (v * 3) points ++ (coord_of points v 0 ∷ coord_of points v 1 ∷ coord_of points v 2 ∷ [])
  unfolding coord_of
  three v l =
      let a : v * 3 < length points = omega (arith, h.threes) in
      let b : suc (v * 3) < length points = omega (arith, h.threes) in
      let c : suc (suc (v * 3)) < length points = omega (arith, h.threes) in
      let d : v * 3 + 0 ≡ v * 3 = omega arith in
      let e : v * 3 + 2 ≡ suc (suc (v * 3)) = omega arith in
      take-add (v * 3) 3 points
      ∙ ap (λ (l : List ℤ). take (v * 3) points ++ l)
      (rw (drop-cons points (v * 3) (pos 0) a, drop-cons points (suc (v * 3)) (pos 0) b, drop-cons points (suc (suc (v * 3))) (pos 0) c, add-one, d, e))

  coords : (v : ℕ) → v < vertices points → coords_at s (0 + 7 * v + 1) ≡ coord_of points v 0 ∷ coord_of points v 1 ∷ coord_of points v 2 ∷ []
  coords v l =
      let i : 0 + 7 * v + 1 ≡ 7 * v + 1 = omega arith in
      let r = sym (numbers_3 s (7 * v + 1)) ∙ (stands_point v l).numbers in
      let a : unsigned_at s (7 * v + 1) ≡ bits (coord_of points v 0) = cc in
      let b : unsigned_at s (7 * v + 1 + 2) ≡ bits (coord_of points v 1) = cc in
      let c : unsigned_at s (7 * v + 1 + 4) ≡ bits (coord_of points v 2) = cc in
      let f = h.placed.fits v in
      rw (i, a, b, c, signed-bits (f 0 l (lit< tt)), signed-bits (f 1 l (lit< tt)), signed-bits (f 2 l (lit< tt)))

  points-upto : (v : ℕ) → v ≤ vertices points → points_at s 0 v ≡ take (v * 3) points
  unfolding joined
  points-upto zero l = refl
  points-upto (suc v) l =
      let m : v < vertices points = omega arith in
      let e : suc v * 3 ≡ v * 3 + 3 = omega arith in
      rw (e, three v m, points-upto v (omega arith), coords v m)

  pub points-are : points_at s 0 (vertices points) ≡ points
  points-are = points-upto (vertices points) (omega arith) ∙ rw (← h.threes) (take-length points)

  -- ---- the facets

  abbrev offset : ℕ → ℕ
  offset f = 7 * vertices points + (f + 2 * begin begins f)

  length_before : (f : ℕ) → f < length begins → length (point_bytes points (vertices points) ++ facet_bytes corners begins f) ≡ offset f
  length_before f l = rw (length-append, length-points points (vertices points), length_facets h.divided f l)

  stands_facet : (f : ℕ) → f < facets begins → StandsAt s (offset f) (length (facet_of corners begins f)) (facet_of corners begins f)
  stands_facet f l =
      let r = joined-split (λ k. bytes (facet (facet_of corners begins k))) f (facets begins) l in
      stands_at (point_bytes points (vertices points) ++ facet_bytes corners begins f) (length (facet_of corners begins f)) (facet_of corners begins f)
      (r.0 ++ ending (vertices points) (facets begins)) (h.numbers f l) (rw r.1 (simp append_assoc)) (length_before f (omega arith))

  -- the kind byte of facet f
  kind-is : (f : ℕ) → f < facets begins → get_or s (offset f) 0 ≡ sides begins f
  kind-is f l = (stands_facet f l).first ∙ length_facet h.divided f l

  place_is : (f : ℕ) → f ≤ facets begins → place s (7 * vertices points) f ≡ offset f
  unfolding place
  place_is zero l = omega (arith, h.divided.start)
  place_is (suc f) l =
      let m : f < facets begins = omega arith in
      rw (place_is f (omega arith), kind-is f m) (omega (arith, h.divided.rise f m, ap (begin begins) (add-one f)))

  corners-upto : (f : ℕ) → f ≤ facets begins → corners_at s (7 * vertices points) f ≡ take (begin begins f) corners
  unfolding joined
  corners-upto zero l = rw h.divided.start
  corners-upto (suc f) l =
      let m : f < facets begins = omega arith in
      let e : begin begins (suc f) ≡ begin begins f + sides begins f = omega (arith, h.divided.rise f m, ap (begin begins) (add-one f)) in
      rw (
        corners-upto f (omega arith),
        place_is f (omega arith),
        kind-is f m,
        ← length_facet h.divided f m,
        (stands_facet f m).numbers,
        e,
      )
      (sym (take-add (begin begins f) (sides begins f) corners))

  pub corners-are : corners_at s (7 * vertices points) (facets begins) ≡ corners
  corners-are = corners-upto (facets begins) (omega arith) ∙ rw h.divided.finish (take-length corners)

  length-upto : (f : ℕ) → f < length begins → length (corners_at s (7 * vertices points) f) ≡ begin begins f
  length-upto f l = rw (corners-upto f (omega arith)) (length-take-le (begin begins f) corners (begin_within h.divided f l))

  pub begins-are : begins_at s (7 * vertices points) (facets begins + 1) ≡ begins
  begins-are =
      let e : facets begins + 1 ≡ length begins = omega (arith, h.divided.some) in
      rw e
      (joined_same (λ f. length (corners_at s (7 * vertices points) f) ∷ []) (λ f. get_or begins f 0 ∷ []) (length begins)
      (λ f l. ap (λ (x : ℕ). x ∷ []) (length-upto f l))
      ∙ listed-take begins (length begins) (omega arith) ∙ take-length begins)

  -- ---- the end, and the whole

  stands_end : StandsAt s (offset (facets begins)) 0 (vertices points ∷ facets begins ∷ [])
  stands_end =
      stands_at (point_bytes points (vertices points) ++ facet_bytes corners begins (facets begins)) 0 (vertices points ∷ facets begins ∷ []) []
      (sixteen_append (sixteen_one (omega (arith, h.placed.few))) (sixteen_one (omega (arith, h.divided.most))))
      (rw append-nil) (length_before (facets begins) (omega (arith, h.divided.some)))

  ends : IsEnd s (offset (facets begins)) (vertices points) (facets begins)
  ends =
      let at = offset (facets begins) in
      let j : at + 3 ≡ at + 1 + 2 = omega arith in
      let q = sym (numbers_2 s (at + 1)) ∙ stands_end.numbers in
      let a : unsigned_at s (at + 1) ≡ vertices points = cc in
      let b : unsigned_at s (at + 1 + 2) ≡ facets begins = cc in
      record { kind = stands_end.first; points = a; facets = rw j b; last = length-tape points h.divided ∙ omega (arith, h.divided.finish) }

  pub holds_whole : Whole s (vertices points) (facets begins) (length corners)
  holds_whole =
      let p = h.divided in
      record {
        records = record {
          few = h.placed.few;
          kinds = λ k l. let e : 0 + 7 * k ≡ 7 * k = omega arith in rw e (stands_point k l).first;
          next = omega arith;
          facets = record {
            few = omega (arith, p.most);
            short = rw corners-are p.short;
            inside = rw (place_is (facets begins) (omega arith)) (omega (arith, stands_end.inside));
            least = λ f l. rw (place_is f (omega arith), kind-is f l) (omega (arith, p.rise f l));
            most = λ f l. rw (place_is f (omega arith), kind-is f l) (omega (arith, p.narrow f l));
          };
        };
        corners = rw corners-are;
        ends = rw (place_is (facets begins) (omega arith)) ends;
      }
