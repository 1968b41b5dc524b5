-- The records of a point and of a facet, and their bytes: what every layout of a tape has. Assumes nothing.
use Rattle.std.specs.Prelude.{◌≡◌, refl, List, [], ◌∷◌, ◌++◌, ℤ, length, get_or, take, drop}
use Rattle.std.proofs.Common.{sym, ◌∙◌, append_assoc, add-one, arith, length-append, length-drop, take-suc, length-take-le, SFits}
use Rattle.std.proofs.Math.Path.{ap}
use Prim.Native.Nat.{ℕ, zero, suc, ◌+◌, ◌-◌, ◌*◌, ◌≤◌, ◌<◌}
use Rattle.std.specs.Int.{w16}
use Rattle.points.specs.Points.{vertices, coord_of}
use Rattle.tables.specs.Tables.{most_vertices, most_facets, most_corners, least_sides, most_sides, facets, begin, end, sides, facet_of}
use Rattle.tables.specs.Size.{Laid}
use Rattle.tape.specs.Little.{bytes_of, bits, length-bytes}
use Rattle.whole.specs.Joined.{joined}

-- "1 point: x, y, z, signed 16 bits each"; "3 to 12 facet: as many unsigned 16-bit vertex numbers as the kind says"
pub data Record : Type 0 where
  point : ℤ → ℤ → ℤ → Record
  facet : List ℕ → Record

abbrev pub kind : Record → ℕ
kind (point x y z) = 1
kind (facet corners) = length corners

-- the numbers of its body, 16 bits each
abbrev pub body : Record → List ℕ
body (point x y z) = bits x ∷ bits y ∷ bits z ∷ []
body (facet corners) = corners

-- the bytes of numbers, one after the other
unfoldable pub packed : List ℕ → List ℕ
packed [] = []
packed (n ∷ ns) = bytes_of 2 n ++ packed ns

-- "One byte of kind, then a body whose length the kind fixes"
abbrev pub framed : ℕ → List ℕ → List ℕ
framed kind body = kind ∷ packed body

abbrev pub bytes : Record → List ℕ
bytes r = framed (kind r) (body r)

-- ---- the records of tables

abbrev pub point_of : List ℤ → ℕ → Record
point_of points v = point (coord_of points v 0) (coord_of points v 1) (coord_of points v 2)

-- the first n points, and the first n facets
abbrev pub point_bytes : List ℤ → ℕ → List ℕ
point_bytes points n = joined (λ v. bytes (point_of points v)) n

abbrev pub facet_bytes : List ℕ → List ℕ → ℕ → List ℕ
facet_bytes corners begins n = joined (λ f. bytes (facet (facet_of corners begins f))) n

-- "Points come first, then facets"
abbrev pub record_bytes : List ℤ → List ℕ → List ℕ → List ℕ
record_bytes points corners begins = point_bytes points (vertices points) ++ facet_bytes corners begins (facets begins)

-- ---- how long they are

pub length-packed : (ns : List ℕ) → length (packed ns) ≡ 2 * length ns
unfolding packed
length-packed [] = refl
length-packed (n ∷ ns) = simp (length-append, length-bytes) (omega (arith, length-packed ns))

pub packed-append : (a b : List ℕ) → packed (a ++ b) ≡ packed a ++ packed b
unfolding packed
packed-append [] b = refl
packed-append (n ∷ a) b = ap (λ (l : List ℕ). bytes_of 2 n ++ l) (packed-append a b) ∙ sym (append_assoc (bytes_of 2 n) (packed a) (packed b))

pub packed-one : (n : ℕ) → packed (n ∷ []) ≡ bytes_of 2 n
unfolding packed bytes_of
packed-one n = refl

-- one number more
pub packed_more : (ns : List ℕ) (i : ℕ) → i < length ns → packed (take (i + 1) ns) ≡ packed (take i ns) ++ bytes_of 2 (get_or ns i 0)
packed_more ns i h = rw (add-one, take-suc ns i 0 h, packed-append, packed-one)

-- Of SIZE, what the records need: the run cut into facets of 3 to 12 corners, within the upper limits.
pub record Divided (corners begins : List ℕ) : Type 0 where
  pub some : 1 ≤ length begins
  pub most : length begins ≤ most_facets + 1
  pub short : length corners ≤ most_corners
  pub start : begin begins 0 ≡ 0
  pub finish : begin begins (facets begins) ≡ length corners
  pub rise : (f : ℕ) → f < facets begins → begin begins f + least_sides ≤ end begins f
  pub narrow : (f : ℕ) → f < facets begins → end begins f ≤ begin begins f + most_sides

pub divided : {corners begins : List ℕ} → Laid corners begins → Divided corners begins
divided L = record {
  some = omega (arith, L.some);
  most = L.most;
  short = L.short;
  start = L.start;
  finish = L.finish;
  rise = λ f l. L.rise f (omega arith);
  narrow = λ f l. L.narrow f (omega arith);
}

-- of RANGE, what they need: each coordinate has 16 bits
pub record Fits16 (points : List ℤ) : Type 0 where
  pub few : vertices points ≤ most_vertices
  pub fits : (v k : ℕ) → v < vertices points → k < 3 → SFits w16 (coord_of points v k)

module _ {corners begins : List ℕ} (p : Divided corners begins) where
  below : (j f : ℕ) → f + j ≡ facets begins → begin begins f ≤ length corners
  below zero f e = let q : f ≡ facets begins = omega arith in rw (q, p.finish) (omega arith)
  below (suc j) f e = omega (arith, below j (f + 1) (omega arith), p.rise f (omega arith))

  -- each begin is within the run
  pub begin_within : (f : ℕ) → f < length begins → begin begins f ≤ length corners
  begin_within f l = below (facets begins - f) f (omega arith)

  pub length_facet : (f : ℕ) → f < facets begins → length (facet_of corners begins f) ≡ sides begins f
  length_facet f l =
      length-take-le (sides begins f) (drop (begin begins f) corners)
      (simp length-drop (omega (arith, p.rise f l, begin_within (f + 1) (omega arith))))

  pub length_facets : (f : ℕ) → f < length begins → length (facet_bytes corners begins f) ≡ f + 2 * begin begins f
  unfolding joined
  length_facets zero l = rw p.start
  length_facets (suc f) l =
      simp (length-append, length-packed)
      (omega (arith, length_facets f (omega arith), length_facet f (omega arith), p.rise f (omega arith), ap (begin begins) (add-one f)))

  pub length_all_facets : length (facet_bytes corners begins (facets begins)) ≡ facets begins + 2 * length corners
  length_all_facets = omega (arith, length_facets (facets begins) (omega (arith, p.some)), p.finish)

pub length-points : (points : List ℤ) (n : ℕ) → length (point_bytes points n) ≡ 7 * n
unfolding joined
length-points points zero = refl
length-points points (suc n) = simp (length-append, length-packed) (omega (arith, length-points points n))

pub length-records : (points : List ℤ) {corners begins : List ℕ} → Divided corners begins
    → length (record_bytes points corners begins) ≡ 7 * vertices points + (facets begins + 2 * length corners)
length-records points {corners} {begins} p =
    rw (length-append, length-points points (vertices points), length_all_facets p)
