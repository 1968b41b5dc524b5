-- What a look at a record tells, in plain words, and the other way: from what stands there, what the look is. Assumes nothing.
use Rattle.std.specs.Prelude.{◌≡◌, refl, Bool, true, false, cond, List, ℕ, ◌+◌, ◌-◌, ◌*◌, ◌≤◌, ◌<◌, ltb, leb, eqb, length, get_or, Ok, Err}
use Rattle.std.proofs.Common.{arith, lit≤, ltb-false, leb-false, eqb-true, le-ltb, eq-eqb, ne_eqb}
use Rattle.std.proofs.lemmas.Bool.{eqb-false, lt-leb}
use Rattle.tables.specs.Tables.{most_vertices, most_facets, most_corners, least_sides, most_sides}
use Rattle.tape.specs.Little.{unsigned_at}
use Rattle.tape.specs.Reading.{Next, point_at, facet_at, end_at, look_at}
use Rattle.tape.specs.declared.Record.TheVariants.{Point, Facet, End}

-- a point's record stands at `at`, whole, in order and within the limits
pub record IsPoint (s : List ℕ) (at v f : ℕ) : Type 0 where
  pub kind : get_or s at 0 ≡ 1
  pub first : f ≡ 0
  pub few : v < most_vertices
  pub whole : at + 7 ≤ length s

-- a facet's, of n corners
pub record IsFacet (s : List ℕ) (at f c n : ℕ) : Type 0 where
  pub kind : get_or s at 0 ≡ n
  pub least : least_sides ≤ n
  pub most : n ≤ most_sides
  pub few : f < most_facets
  pub short : c + n ≤ most_corners
  pub whole : at + (1 + 2 * n) ≤ length s

-- the end's, with the counts of the records before it, and nothing after it
pub record IsEnd (s : List ℕ) (at v f : ℕ) : Type 0 where
  pub kind : get_or s at 0 ≡ 0
  pub points : unsigned_at s (at + 1) ≡ v
  pub facets : unsigned_at s (at + 3) ≡ f
  pub last : length s ≡ at + 5

-- a refusal's number is 17 or more
abbrev pub Told : List ℕ → ℕ → ℕ → ℕ → ℕ → Next → Type 0
Told s at v f c (Ok Point) = IsPoint s at v f
Told s at v f c (Ok (Facet n)) = IsFacet s at f c n
Told s at v f c (Ok End) = IsEnd s at v f
Told s at v f c (Err refused) = 17 ≤ refused.number

-- an answer by a test, case by case
by : (P : Next → Type 0) (t : Bool) (x y : Next) → (t ≡ true → P x) → (t ≡ false → P y) → P (cond t x y)
by P true x y a b = a refl
by P false x y a b = b refl

module _ (s : List ℕ) (at v f c : ℕ) (in-it : leb (length s) at ≡ false) where
  told_end : eqb (get_or s at 0) 0 ≡ true → Told s at v f c (end_at s at v f)
  told_end k =
      let P = Told s at v f c in
      by P (ltb (length s - at) 5) _ _ (λ _. lit≤ tt) (λ a.
      by P (eqb (unsigned_at s (at + 1)) v) _ _ (λ b.
      by P (eqb (unsigned_at s (at + 3)) f) _ _ (λ d.
      by P (ltb 5 (length s - at)) _ _ (λ _. lit≤ tt) (λ e.
      record {
        kind = eqb-true _ _ k;
        points = eqb-true _ _ b;
        facets = eqb-true _ _ d;
        last = omega (arith, leb-false (length s) at in-it, ltb-false (length s - at) 5 a, ltb-false 5 (length s - at) e);
      }))
      (λ _. lit≤ tt))
      (λ _. lit≤ tt))

  told_point : eqb (get_or s at 0) 1 ≡ true → Told s at v f c (point_at s at v f)
  told_point k =
      let P = Told s at v f c in
      by P (ltb 0 f) _ _ (λ _. lit≤ tt) (λ a.
      by P (leb most_vertices v) _ _ (λ _. lit≤ tt) (λ b.
      by P (ltb (length s - at) 7) _ _ (λ _. lit≤ tt) (λ d.
      record {
        kind = eqb-true _ _ k;
        first = omega (arith, ltb-false 0 f a);
        few = leb-false most_vertices v b;
        whole = omega (arith, leb-false (length s) at in-it, ltb-false (length s - at) 7 d);
      })))

  told_facet : least_sides ≤ get_or s at 0 → ltb most_sides (get_or s at 0) ≡ false → Told s at v f c (facet_at s at f c (get_or s at 0))
  told_facet l k =
      let P = Told s at v f c in
      by P (leb most_facets f) _ _ (λ _. lit≤ tt) (λ a.
      by P (ltb most_corners (c + get_or s at 0)) _ _ (λ _. lit≤ tt) (λ b.
      by P (ltb (length s - at) (1 + 2 * get_or s at 0)) _ _ (λ _. lit≤ tt) (λ d.
      record {
        kind = refl;
        least = l;
        most = ltb-false most_sides (get_or s at 0) k;
        few = leb-false most_facets f a;
        short = ltb-false most_corners (c + get_or s at 0) b;
        whole = omega (arith, leb-false (length s) at in-it, ltb-false (length s - at) (1 + 2 * get_or s at 0) d);
      })))

told : (s : List ℕ) (at v f c : ℕ) → Told s at v f c (look_at s at v f c)
unfolding look_at
told s at v f c =
    let P = Told s at v f c in
    let k = get_or s at 0 in
    by P (leb (length s) at) _ _ (λ _. lit≤ tt) (λ a.
    by P (eqb k 0) _ _ (told_end s at v f c a) (λ d.
    by P (eqb k 1) _ _ (told_point s at v f c a) (λ e.
    by P (eqb k 2) _ _ (λ _. lit≤ tt) (λ g.
    by P (ltb most_sides k) _ _ (λ _. lit≤ tt) (λ h.
    told_facet s at v f c a (three k (eqb-false k 0 d) (eqb-false k 1 e) (eqb-false k 2 g)) h)))))
  where
    three : (k : ℕ) → (k ≡ 0 → ⊥) → (k ≡ 1 → ⊥) → (k ≡ 2 → ⊥) → least_sides ≤ k
    three k a b d = omega arith

pub tells : (s : List ℕ) (at v f c : ℕ) {r : Next} → look_at s at v f c ≡ r → Told s at v f c r
tells s at v f c e = rw e at (told s at v f c)

pub is_point : {s : List ℕ} {at v f : ℕ} (c : ℕ) → IsPoint s at v f → look_at s at v f c ≡ Ok Point
unfolding look_at
is_point {s} {at} {v} {f} c k =
    rw (
      lt-leb (length s) at (omega (arith, k.whole)),
      k.kind,
      le-ltb 0 f (omega (arith, k.first)),
      lt-leb most_vertices v k.few,
      le-ltb (length s - at) 7 (omega (arith, k.whole)),
    )

pub is_facet_lem : {s : List ℕ} {at f c n : ℕ} (v : ℕ) → IsFacet s at f c n → look_at s at v f c ≡ Ok (Facet n)
unfolding look_at
is_facet_lem {s} {at} {f} {c} {n} v k =
    rw (
      lt-leb (length s) at (omega (arith, k.whole)),
      k.kind,
      ne_eqb n 0 (λ e. omega (arith, k.least)),
      ne_eqb n 1 (λ e. omega (arith, k.least)),
      ne_eqb n 2 (λ e. omega (arith, k.least)),
      le-ltb most_sides n k.most,
      lt-leb most_facets f k.few,
      le-ltb most_corners (c + n) k.short,
      le-ltb (length s - at) (1 + 2 * n) (omega (arith, k.whole)),
    )

pub is_end : {s : List ℕ} {at v f : ℕ} (c : ℕ) → IsEnd s at v f → look_at s at v f c ≡ Ok End
unfolding look_at
is_end {s} {at} {v} {f} c k =
    rw (
      lt-leb (length s) at (omega (arith, k.last)),
      k.kind,
      le-ltb (length s - at) 5 (omega (arith, k.last)),
      eq-eqb (unsigned_at s (at + 1)) v k.points,
      eq-eqb (unsigned_at s (at + 3)) f k.facets,
      le-ltb 5 (length s - at) (omega (arith, k.last)),
    )
