-- "one above the longest tape; the answer is already sure": inputs that begin with the same 21,510 bytes are read alike. Assumes nothing.
use Rattle.std.specs.Prelude.{◌≡◌, Bool, true, false, cond, List, ltb, leb, eqb, length, get_or, take, Ok, Err}
use Rattle.std.proofs.Math.Path.{refl}
use Rattle.std.proofs.Common.{ap, take_all, get_or-take, length-take-le}
use Prim.Native.Nat.{ℕ, zero, suc, ◌+◌, ◌-◌, ◌*◌, ◌≤◌, ◌<◌}
use Rattle.std.proofs.Math.Decide.{dec_lt}
use native.Mathlib.Omega.{arith}
use borrow.Author.Tests.{ltb-false, leb-false, lt-ltb, le-ltb, lt-leb}
use Rattle.tables.specs.Tables.{most_vertices, most_facets, most_corners, most_sides}
use Rattle.tape.specs.Little.{number_at}
use Rattle.tape.specs.Reading.{Next, point_at, facet_at, end_at, kind_at, look_at, after, run, read_tape}
use Rattle.tape.specs.Look.{tells}
use Rattle.tape.specs.declared.Record.TheVariants.{Point, Facet, End}
use Rattle.longest.specs.Longest.{tape_room}

-- two inputs that begin with the same bytes, one more than the longest tape has
pub record Alike (s t : List ℕ) : Type 0 where
  pub long : tape_room ≤ length s
  pub long_too : tape_room ≤ length t
  pub same : (i : ℕ) → i < tape_room → get_or s i 0 ≡ get_or t i 0

-- where a reading stands: at the end of records that are within the limits
record Stands (at v f c : ℕ) : Type 0 where
  here : at ≡ 7 * v + f + 2 * c
  points : v ≤ most_vertices
  facets : f ≤ most_facets
  corners : c ≤ most_corners

-- an answer by a test, case by case
by : (t : Bool) {a b x y : Next} → (t ≡ true → a ≡ b) → (t ≡ false → x ≡ y) → cond t a x ≡ cond t b y
by true p q = p refl
by false p q = q refl

module _ {s t : List ℕ} (A : Alike s t) where
  same_number : (k i : ℕ) → i + k ≤ tape_room → number_at k s i ≡ number_at k t i
  unfolding number_at
  same_number zero i h = refl
  same_number (suc k) i h = rw (A.same i (omega arith), same_number k (i + 1) (omega arith))

  module _ {at v f c : ℕ} (S : Stands at v f c) where
    same_point : point_at s at v f ≡ point_at t at v f
    same_point =
        by (ltb 0 f) (λ _. refl) (λ _.
        by (leb most_vertices v) (λ _. refl) (λ l.
        let m = leb-false most_vertices v l in
        rw (le-ltb (length s - at) 7 (omega (arith, A.long)), le-ltb (length t - at) 7 (omega (arith, A.long_too)))))

    same-facet : (n : ℕ) → facet_at s at f c n ≡ facet_at t at f c n
    same-facet n =
        by (leb most_facets f) (λ _. refl) (λ l.
        by (ltb most_corners (c + n)) (λ _. refl) (λ k.
        let m = leb-false most_facets f l in
        let o = ltb-false most_corners (c + n) k in
        let z = 1 + 2 * n in
        rw (le-ltb (length s - at) z (omega (arith, A.long)), le-ltb (length t - at) z (omega (arith, A.long_too)))))

    -- a byte follows an end, so it is no end of the tape: TAIL, if the counts are right
    same_end : end_at s at v f ≡ end_at t at v f
    same_end =
        rw (
          le-ltb (length s - at) 5 (omega (arith, A.long)),
          le-ltb (length t - at) 5 (omega (arith, A.long_too)),
          lt-ltb 5 (length s - at) (omega (arith, A.long)),
          lt-ltb 5 (length t - at) (omega (arith, A.long_too)),
          same_number 2 (at + 1) (omega arith),
          same_number 2 (at + 3) (omega arith),
        )

    same_kind : (n : ℕ) → kind_at s at v f c n ≡ kind_at t at v f c n
    same_kind n =
        by (eqb n 0) (λ _. same_end) (λ _.
        by (eqb n 1) (λ _. same_point) (λ _.
        by (eqb n 2) (λ _. refl) (λ _.
        by (ltb most_sides n) (λ _. refl) (λ _. same-facet n))))

    same-look : look_at s at v f c ≡ look_at t at v f c
    unfolding look_at
    same-look =
        rw (
          lt-leb (length s) at (omega (arith, A.long)),
          lt-leb (length t) at (omega (arith, A.long_too)),
          A.same at (omega arith),
        )
        (same_kind (get_or t at 0))

  -- what a record leaves to the records after it is alike, if their reading is
  same_after : (j k at v f c : ℕ) → Stands at v f c
      → ((at v f c : ℕ) → Stands at v f c → length s < j + at → length t < k + at → run (look_at s) j at v f c ≡ run (look_at t) k at v f c)
      → length s < suc j + at → length t < suc k + at → (r : Next) → look_at t at v f c ≡ r
      → after (run (look_at s) j) at v f c r ≡ after (run (look_at t) k) at v f c r
  same_after j k at v f c S more a b (Ok Point) e =
      let p = tells t at v f c e in
      let S' : Stands (at + 7) (v + 1) f c =
      record { here = omega (arith, S.here); points = omega (arith, p.few); facets = S.facets; corners = S.corners } in
      more (at + 7) (v + 1) f c S' (omega arith) (omega arith)
  same_after j k at v f c S more a b (Ok (Facet n)) e =
      let p = tells t at v f c e in
      let S' : Stands (at + (1 + 2 * n)) v (f + 1) (c + n) =
      record { here = omega (arith, S.here); points = S.points; facets = omega (arith, p.few); corners = p.short } in
      more (at + (1 + 2 * n)) v (f + 1) (c + n) S' (omega arith) (omega arith)
  same_after j k at v f c S more a b (Ok End) e = refl
  same_after j k at v f c S more a b (Err refused) e = refl

  same-run : (j k at v f c : ℕ) → Stands at v f c → length s < j + at → length t < k + at → run (look_at s) j at v f c ≡ run (look_at t) k at v f c
  unfolding run
  same-run zero k at v f c S a b = absurd (omega (arith, A.long))
  same-run (suc j) zero at v f c S a b = absurd (omega (arith, A.long_too))
  same-run (suc j) (suc k) at v f c S a b =
      rw (same-look S) (same_after j k at v f c S (same-run j k) a b (look_at t at v f c) refl)

  pub read_alike : read_tape s ≡ read_tape t
  unfolding read_tape
  read_alike =
      let S : Stands 0 0 0 0 = record { here = refl; points = omega arith; facets = omega arith; corners = omega arith } in
      same-run (suc (length s)) (suc (length t)) 0 0 0 0 S (omega arith) (omega arith)

-- an input is read as its first 21,510 bytes are
pub read-cut : (s : List ℕ) → read_tape (take tape_room s) ≡ read_tape s
read-cut s = elim (dec_lt tape_room (length s)) [
  | yes l ↦ read_alike (record {
    long = omega (arith, length-take-le tape_room s (omega arith));
    long_too = omega arith;
    same = λ i h. get_or-take tape_room s i 0 h;
  })
  | no l ↦ ap read_tape (take_all tape_room s (omega arith))
]
