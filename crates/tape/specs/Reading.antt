-- The reading of bytes: record after record, up to the end or the first bad record; and the tables of a tape that is read.
use Rattle.std.specs.Prelude.{◌≡◌, refl, cond, List, [], ◌∷◌, ℕ, zero, suc, ◌+◌, ◌-◌, ◌*◌, ltb, leb, eqb, ℤ, length, get_or, Result, Ok, Err}
use Rattle.std.proofs.Common.{arith, length-append}
use Rattle.tables.specs.Tables.{most_vertices, most_facets, most_corners, most_sides}
use Rattle.tape.specs.Little.{unsigned_at, signed_at}
use Rattle.whole.specs.Joined.{joined, listed}
use Rattle.tape.specs.declared.Record.{Record}
use Rattle.tape.specs.declared.Record.TheVariants.{Point, Facet, End}
use Rattle.reading.specs.declared.Refused.{Refused}
use Rattle.reading.specs.Answer.{Reading, counted, refused_at}

-- a sound record, or a refusal
abbrev pub Next : Type 0
Next = Result Record Refused

-- ---- what stands at an offset, where v points and f facets with c corners came before

module _ (s : List ℕ) (at : ℕ) where
  -- "18 ORDER, a point after a facet; 19 LIMIT, V, F or corners would pass their upper limit; 20 CUT, the body is short"
  abbrev pub point_at : ℕ → ℕ → Next
  point_at v f =
      cond (ltb 0 f) (Err (refused_at 18 at))
      (cond (leb most_vertices v) (Err (refused_at 19 at))
      (cond (ltb (length s - at) 7) (Err (refused_at 20 at)) (Ok Point)))

  abbrev pub facet_at : ℕ → ℕ → ℕ → Next
  facet_at f c n =
      cond (leb most_facets f) (Err (refused_at 19 at))
      (cond (ltb most_corners (c + n)) (Err (refused_at 19 at))
      (cond (ltb (length s - at) (1 + 2 * n)) (Err (refused_at 20 at)) (Ok (Facet n))))

  -- "for the end record then 21 COUNT, its numbers differ from the records; 22 TAIL, a byte follows, given at that byte's offset"
  abbrev pub end_at : ℕ → ℕ → Next
  end_at v f =
      cond (ltb (length s - at) 5) (Err (refused_at 20 at))
      (cond (eqb (unsigned_at s (at + 1)) v)
      (cond (eqb (unsigned_at s (at + 3)) f)
      (cond (ltb 5 (length s - at)) (Err (refused_at 22 (at + 5))) (Ok End))
      (Err (refused_at 21 at)))
      (Err (refused_at 21 at)))

  -- "17 KIND, unknown"
  abbrev pub kind_at : ℕ → ℕ → ℕ → ℕ → Next
  kind_at v f c n =
      cond (eqb n 0) (end_at v f)
      (cond (eqb n 1) (point_at v f)
      (cond (eqb n 2) (Err (refused_at 17 at))
      (cond (ltb most_sides n) (Err (refused_at 17 at)) (facet_at f c n))))

-- "Input used up before an end record is CUT at its length"
unfoldable pub look_at : List ℕ → ℕ → ℕ → ℕ → ℕ → Next
look_at s at v f c = cond (leb (length s) at) (Err (refused_at 20 at)) (kind_at s at v f c (get_or s at 0))

-- ---- "the first bad record decides"

-- what a record leaves to the records after it
abbrev pub after : (ℕ → ℕ → ℕ → ℕ → Reading) → ℕ → ℕ → ℕ → ℕ → Next → Reading
after rest at v f c (Ok Point) = rest (at + 7) (v + 1) f c
after rest at v f c (Ok (Facet n)) = rest (at + (1 + 2 * n)) v (f + 1) (c + n)
after rest at v f c (Ok End) = Ok (counted v f c)
after rest at v f c (Err refused) = Err refused

-- at most k records, each by the look of its layout; k is enough (`refused-number`)
unfoldable pub run : (ℕ → ℕ → ℕ → ℕ → Next) → ℕ → ℕ → ℕ → ℕ → ℕ → Reading
run look zero at v f c = Err (refused_at 0 0)
run look (suc k) at v f c = after (run look k) at v f c (look at v f c)

-- each record has a byte at least, and the last look is at the end of the input
unfoldable pub read_tape : List ℕ → Reading
read_tape s = run (look_at s) (suc (length s)) 0 0 0 0

-- ---- the tables of a tape that is read

-- the numbers of a body that starts at i: a point's three, and n vertex numbers
abbrev pub coords_at : List ℕ → ℕ → List ℤ
coords_at s i = signed_at s i ∷ signed_at s (i + 2) ∷ signed_at s (i + 4) ∷ []

abbrev pub numbers_at : List ℕ → ℕ → ℕ → List ℕ
numbers_at s i n = listed (λ k. unsigned_at s (i + 2 * k)) n

-- the points of n records from `at` on
abbrev pub points_at : List ℕ → ℕ → ℕ → List ℤ
points_at s at n = joined (λ v. coords_at s (at + 7 * v + 1)) n

-- where facet f's record starts, the first at `at`, each where the one before it ends
unfoldable pub place : List ℕ → ℕ → ℕ → ℕ
place s at zero = at
place s at (suc f) = place s at f + (1 + 2 * get_or s (place s at f) 0)

abbrev pub facet_from : List ℕ → ℕ → ℕ → List ℕ
facet_from s at f = numbers_at s (place s at f + 1) (get_or s (place s at f) 0)

-- the corners of n records from `at` on, and the first n begins
abbrev pub corners_at : List ℕ → ℕ → ℕ → List ℕ
corners_at s at n = joined (facet_from s at) n

abbrev pub begins_at : List ℕ → ℕ → ℕ → List ℕ
begins_at s at n = listed (λ f. length (corners_at s at f)) n

pub length-points_at : (s : List ℕ) (at n : ℕ) → length (points_at s at n) ≡ n * 3
unfolding joined
length-points_at s at zero = refl
length-points_at s at (suc n) = simp length-append (omega (arith, length-points_at s at n))
