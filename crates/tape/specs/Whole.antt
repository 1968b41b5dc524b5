-- A tape is read exactly when it is whole: its records stand one after the other, in order, within the limits. Assumes nothing.
use Rattle.std.proofs.Math.Path.{◌≡◌, refl, ap, subst}
use Rattle.std.proofs.Common.{sym, ◌∙◌, below_more}
use Rattle.std.specs.Prelude.{List, get_or, Ok, Err}
use Prim.Native.Nat.{ℕ, zero, suc, ◌+◌, ◌-◌, ◌*◌, ◌≤◌, ◌<◌}
use native.Mathlib.Omega.{arith}
use Rattle.std.proofs.Math.Numerals.{add-one}
use Rattle.std.proofs.Math.Decide.{dec_lt}
use Rattle.std.proofs.Math.ListN.{length, length-append}
use Rattle.tables.specs.Tables.{most_vertices, most_facets, most_corners, least_sides, most_sides}
use Rattle.whole.specs.Joined.{joined, joined-0, joined-more, joined-split, length-listed}
use Rattle.tape.specs.Reading.{Next, look_at, after, run, read_tape, place, facet_from, corners_at}
use Rattle.tape.specs.Look.{IsPoint, IsFacet, IsEnd, tells, is_point, is_facet_lem, is_end}
use Rattle.tape.specs.declared.Record.TheVariants.{Point, Facet, End}
use Rattle.reading.specs.declared.Counts.{Counts}
use Rattle.reading.specs.Answer.{counted, refused_at}

-- n facets' records stand from `at` on
pub record Facets (s : List ℕ) (at n : ℕ) : Type 0 where
  pub few : n ≤ most_facets
  pub short : length (corners_at s at n) ≤ most_corners
  pub inside : place s at n ≤ length s
  pub least : (f : ℕ) → f < n → least_sides ≤ get_or s (place s at f) 0
  pub most : (f : ℕ) → f < n → get_or s (place s at f) 0 ≤ most_sides

-- v points' records stand from `from` on, then f facets', from `at` on
pub record Records (s : List ℕ) (from at v f : ℕ) : Type 0 where
  pub few : v ≤ most_vertices
  pub kinds : (k : ℕ) → k < v → get_or s (from + 7 * k) 0 ≡ 1
  pub next : from + 7 * v ≡ at
  pub facets : Facets s at f

-- the whole of a tape
pub record Whole (s : List ℕ) (v f c : ℕ) : Type 0 where
  pub records : Records s 0 (7 * v) v f
  pub corners : length (corners_at s (7 * v) f) ≡ c
  pub ends : IsEnd s (place s (7 * v) f) v f

-- ---- one facet more

module _ (s : List ℕ) (at : ℕ) where
  pub place_0 : place s at 0 ≡ at
  unfolding place
  place_0 = refl

  pub place_more : (f : ℕ) → place s at (f + 1) ≡ place s at f + (1 + 2 * get_or s (place s at f) 0)
  unfolding place
  place_more f = rw add-one

  pub length_from : (f : ℕ) → length (facet_from s at f) ≡ get_or s (place s at f) 0
  length_from f = length-listed _ (get_or s (place s at f) 0)

  pub corners_more : (f : ℕ) → length (corners_at s at (f + 1)) ≡ length (corners_at s at f) + get_or s (place s at f) 0
  corners_more f = rw (joined-more (facet_from s at) f, length-append, length_from)

  -- places and corners rise
  pub place_rises : (f n : ℕ) → f ≤ n → place s at f + (n - f) ≤ place s at n
  unfolding place
  place_rises f zero h = let e : f ≡ 0 = omega arith in rw e (omega arith)
  place_rises f (suc n) h = elim (dec_lt f (suc n)) [
    | yes l ↦ omega (arith, place_rises f n (omega arith))
    | no l ↦ let e : f ≡ suc n = omega arith in rw e (omega arith)
  ]

  pub corners_rise : (f n : ℕ) → f < n → length (corners_at s at f) + get_or s (place s at f) 0 ≤ length (corners_at s at n)
  corners_rise f n h =
      let r = joined-split (facet_from s at) f n h in
      rw (r.1, length-append, length-append, length_from) (omega arith)

module _ {s : List ℕ} {at n : ℕ} (h : Facets s at n) {f : ℕ} (l : f < n) where
  -- facet f's record is in the tape
  pub facet_inside : place s at f + (1 + 2 * get_or s (place s at f) 0) ≤ length s
  facet_inside = omega (arith, place_more s at f, place_rises s at (f + 1) n (omega arith), h.inside)

  pub facet_short : length (corners_at s at f) + get_or s (place s at f) 0 ≤ most_corners
  facet_short = omega (arith, corners_rise s at f n l, h.short)

-- ---- where a reading stands: v points and f facets with c corners were read, up to `at`

pub record Here (s : List ℕ) (from at v f c : ℕ) : Type 0 where
  pub start : ℕ
  pub records : Records s from start v f
  pub here : place s start f ≡ at
  pub corners : length (corners_at s start f) ≡ c

no_facets : (s : List ℕ) (at : ℕ) → at ≤ length s → Facets s at 0
unfolding joined
no_facets s at h = record {
  few = omega arith;
  short = omega arith;
  inside = rw place_0 h;
  least = λ f l. absurd (omega arith);
  most = λ f l. absurd (omega arith);
}

pub here_0 : (s : List ℕ) (from : ℕ) → from ≤ length s → Here s from from 0 0 0
unfolding joined
here_0 s from h = record {
  start = from;
  records = record { few = omega arith; kinds = λ k l. absurd (omega arith); next = omega arith; facets = no_facets s from h };
  here = place_0 s from;
  corners = refl;
}

module _ {s : List ℕ} {from at v f c : ℕ} (h : Here s from at v f c) where
  open h use {start, records, here, corners}

  pub here_point : IsPoint s at v f → Here s from (at + 7) (v + 1) f c
  here_point k =
      let e : at ≡ start = sym here ∙ rw k.first (place_0 s start) in
      let p : at ≡ from + 7 * v = omega (arith, records.next) in
      let z : c ≡ 0 = sym corners ∙ rw (k.first, joined-0) in
      record {
        start = at + 7;
        records = record {
          few = omega (arith, k.few);
          kinds = below_more _ v records.kinds (rw p at k.kind);
          next = omega arith;
          facets = rw k.first (no_facets s (at + 7) k.whole);
        };
        here = rw k.first (place_0 s (at + 7));
        corners = rw (k.first, joined-0, z);
      }

  pub here_facet : {n : ℕ} → IsFacet s at f c n → Here s from (at + (1 + 2 * n)) v (f + 1) (c + n)
  here_facet {n} k =
      let e : get_or s (place s start f) 0 ≡ n = rw here k.kind in
      let p : place s start (f + 1) ≡ at + (1 + 2 * n) = place_more s start f ∙ rw (e, here) in
      let z : length (corners_at s start (f + 1)) ≡ c + n = corners_more s start f ∙ rw (e, corners) in
      record {
        start = start;
        records = record {
          few = records.few;
          kinds = records.kinds;
          next = records.next;
          facets = record {
            few = omega (arith, k.few);
            short = rw z k.short;
            inside = rw p k.whole;
            least = below_more _ f records.facets.least (rw e k.least);
            most = below_more _ f records.facets.most (rw e k.most);
          };
        };
        here = p;
        corners = z;
      }

-- ---- the look of a layout tells a point and a facet by what stands there
pub record Looks (s : List ℕ) (look : ℕ → ℕ → ℕ → ℕ → Next) : Type 0 where
  pub point : (at v f c : ℕ) → look at v f c ≡ Ok Point → IsPoint s at v f
  pub facet : (at v f c n : ℕ) → look at v f c ≡ Ok (Facet n) → IsFacet s at f c n
  pub is_point : (at v f c : ℕ) → IsPoint s at v f → look at v f c ≡ Ok Point
  pub is_facet_lem : (at v f c n : ℕ) → IsFacet s at f c n → look at v f c ≡ Ok (Facet n)

-- where a reading ended
pub record Ended (s : List ℕ) (look : ℕ → ℕ → ℕ → ℕ → Next) (from v f c : ℕ) : Type 0 where
  pub at : ℕ
  pub here : Here s from at v f c
  pub end : look at v f c ≡ Ok End

module _ {s : List ℕ} {look : ℕ → ℕ → ℕ → ℕ → Next} (L : Looks s look) (from : ℕ) where
  module _ {v₁ f₁ c₁ : ℕ} where
    one_more : (k at v f c : ℕ) → ((at v f c : ℕ) → Here s from at v f c → run look k at v f c ≡ Ok (counted v₁ f₁ c₁) → Ended s look from v₁ f₁ c₁)
        → Here s from at v f c → (r : Next) → look at v f c ≡ r → after (run look k) at v f c r ≡ Ok (counted v₁ f₁ c₁) → Ended s look from v₁ f₁ c₁
    one_more k at v f c more h (Ok Point) e q = more (at + 7) (v + 1) f c (here_point h (L.point at v f c e)) q
    one_more k at v f c more h (Ok (Facet n)) e q = more (at + (1 + 2 * n)) v (f + 1) (c + n) (here_facet h (L.facet at v f c n e)) q
    one_more k at v f c more h (Ok End) e q =
        let p : counted v f c ≡ counted v₁ f₁ c₁ = cc in
        subst (λ (r : Counts). Ended s look from r.vertices r.facets r.corners) p (record { at = at; here = h; end = e })
    one_more k at v f c more h (Err refused) e q = let z : ◌≡◌ {A = ℕ} 0 1 = cc in absurd (omega arith)

    pub read_ends : (k at v f c : ℕ) → Here s from at v f c → run look k at v f c ≡ Ok (counted v₁ f₁ c₁) → Ended s look from v₁ f₁ c₁
    unfolding run
    read_ends zero at v f c h q = let z : ◌≡◌ {A = ℕ} 0 1 = cc in absurd (omega arith)
    read_ends (suc k) at v f c h q = one_more k at v f c (read_ends k) h (look at v f c) refl q

  -- and the other way
  run_points : {at v f : ℕ} → Records s from at v f → (j k : ℕ) → j ≤ v → run look (k + j) from 0 0 0 ≡ run look k (from + 7 * j) j 0 0
  unfolding run
  run_points r zero k l = let a : k + 0 ≡ k = omega arith in let b : from + 7 * 0 ≡ from = omega arith in rw (a, b)
  run_points {at} {v} {f} r (suc j) k l =
      let a : k + suc j ≡ suc k + j = omega arith in
      let b : from + 7 * j + 7 ≡ from + 7 * suc j = omega arith in
      let i : from + 7 * j + 7 ≤ length s = omega (arith, r.next, place_rises s at 0 f (omega arith), place_0 s at, r.facets.inside) in
      let e : look (from + 7 * j) j 0 0 ≡ Ok Point =
      L.is_point (from + 7 * j) j 0 0 (record { kind = r.kinds j (omega arith); first = refl; few = omega (arith, r.few); whole = i }) in
      rw a (run_points r j (suc k) (omega arith) ∙ rw (e, b, add-one))

  run_facets : {at n : ℕ} (v : ℕ) → Facets s at n → (j k : ℕ) → j ≤ n
      → run look (k + j) at v 0 0 ≡ run look k (place s at j) v j (length (corners_at s at j))
  unfolding run place joined
  run_facets v h zero k l = let a : k + 0 ≡ k = omega arith in rw a
  run_facets {at} {n} v h (suc j) k l =
      let a : k + suc j ≡ suc k + j = omega arith in
      let b : j < n = omega arith in
      let e : look (place s at j) v j (length (corners_at s at j)) ≡ Ok (Facet (get_or s (place s at j) 0)) =
      L.is_facet_lem (place s at j) v j (length (corners_at s at j)) _
      (record {
        kind = refl;
        least = h.least j b;
        most = h.most j b;
        few = omega (arith, h.few);
        short = facet_short h b;
        whole = facet_inside h b;
      }) in
      rw a (run_facets v h j (suc k) (omega arith) ∙ rw (e, length-append, length_from, add-one))

  pub run_records : {at v f : ℕ} → Records s from at v f → (k : ℕ)
      → run look (k + f + v) from 0 0 0 ≡ run look k (place s at f) v f (length (corners_at s at f))
  run_records {at} {v} {f} r k =
      run_points r v (k + f) (omega arith) ∙ rw r.next (run_facets v r.facets f k (omega arith))

-- ---- the reading of a tape

pub looks : (s : List ℕ) → Looks s (look_at s)
looks s = record {
  point = λ at v f c e. tells s at v f c e;
  facet = λ at v f c n e. tells s at v f c e;
  is_point = λ at v f c h. is_point c h;
  is_facet_lem = λ at v f c n h. is_facet_lem v h;
}

module _ {s : List ℕ} {v f c : ℕ} where
  pub read_whole : read_tape s ≡ Ok (counted v f c) → Whole s v f c
  unfolding read_tape
  read_whole q =
      let e = read_ends (looks s) 0 (suc (length s)) 0 0 0 0 (here_0 s 0 (omega arith)) q in
      let r = e.here.records in
      let a : e.here.start ≡ 7 * v = omega (arith, r.next) in
      record {
        records = rw a at r;
        corners = rw a at e.here.corners;
        ends = rw (← a, e.here.here) (tells s e.at v f c e.end);
      }

  pub whole_read : Whole s v f c → read_tape s ≡ Ok (counted v f c)
  unfolding read_tape run
  whole_read w =
      let at = place s (7 * v) f in
      let n = length s - (f + v) in
      let e : suc (length s) ≡ suc n + f + v =
      omega (arith, place_rises s (7 * v) 0 f (omega arith), place_0 s (7 * v), w.records.facets.inside) in
      ap (λ (k : ℕ). run (look_at s) k 0 0 0 0) e ∙ run_records (looks s) 0 w.records (suc n)
      ∙ rw (w.corners, is_end c w.ends)

-- ---- a refusal's number

module _ (s : List ℕ) {number offset : ℕ} where
  refuses : (k at v f c : ℕ)
      → ((at v f c : ℕ) → at ≤ length s → length s < k + at → run (look_at s) k at v f c ≡ Err (refused_at number offset) → 17 ≤ number)
      → length s < suc k + at → (r : Next) → look_at s at v f c ≡ r → after (run (look_at s) k) at v f c r ≡ Err (refused_at number offset) → 17 ≤ number
  refuses k at v f c more l (Ok Point) e q = more (at + 7) (v + 1) f c (tells s at v f c e).whole (omega arith) q
  refuses k at v f c more l (Ok (Facet n)) e q = more (at + (1 + 2 * n)) v (f + 1) (c + n) (tells s at v f c e).whole (omega arith) q
  refuses k at v f c more l (Ok End) e q = let z : ◌≡◌ {A = ℕ} 0 1 = cc in absurd (omega arith)
  refuses k at v f c more l (Err refused) e q = let a : refused.number ≡ number = cc in rw a at (tells s at v f c e)

  run-refuses : (k at v f c : ℕ) → at ≤ length s → length s < k + at → run (look_at s) k at v f c ≡ Err (refused_at number offset) → 17 ≤ number
  unfolding run
  run-refuses zero at v f c h l q = absurd (omega arith)
  run-refuses (suc k) at v f c h l q = refuses k at v f c (run-refuses k) l (look_at s at v f c) refl q

  -- so a number 0 is an acceptance
  pub refused-number : read_tape s ≡ Err (refused_at number offset) → 17 ≤ number
  unfolding read_tape
  refused-number q = run-refuses (suc (length s)) 0 0 0 0 (omega arith) (omega arith) q
