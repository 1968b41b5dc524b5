-- Places of the run under SIZE: the facet of a place, the next place in it, and positions as places. Assumes nothing.
use Rattle.std.specs.Prelude.{◌≡◌, refl, Bool, true, false, cond, List, ℕ, zero, suc, ◌+◌, ◌-◌, ◌≤◌, ◌<◌, eqb, length, drop}
use Rattle.std.proofs.Common.{sym, ap, ◌∙◌, add-zero, le_refl, add-one, length-take, length-drop, get_or-take, get_or-drop}
use native.Mathlib.Omega.{arith}
use Rattle.std.proofs.Math.Decide.{dec_lt}
use Rattle.std.proofs.Math.ListN.{get_or}
use borrow.Author.Tests.{lt-ltb, le-ltb, eqb-true, eqb-false}
use Rattle.whole.specs.First.{lowest-first}
use Rattle.tables.specs.Tables.{least_vertices, most_vertices, most_corners, most_sides, facets, begin, end, sides, facet_of, corner_of, home_of, next_of, from}
use Rattle.tables.specs.Size.{Laid}

-- each corner is one of n vertices
pub record Named (n : ℕ) (corners : List ℕ) : Type 0 where
  pub few : n ≤ most_vertices
  pub short : length corners ≤ most_corners
  pub index : (p : ℕ) → p < length corners → from corners p < n

-- what tables that pass 1 to 3 have, n being V; RANGE's part is `Ranged` of the points
pub record Sound (n : ℕ) (corners begins : List ℕ) : Type 0 where
  pub many : least_vertices ≤ n
  pub laid : Laid corners begins
  pub named : Named n corners

-- what REPEAT leaves
pub record Single (corners begins : List ℕ) : Type 0 where
  pub repeats : (p q : ℕ) → p < length corners → q < length corners → home_of begins p ≡ home_of begins q → from corners p ≡ from corners q → p ≡ q

-- place p is one of facet f
pub record In (begins : List ℕ) (f p : ℕ) : Type 0 where
  pub facet : f + 1 < length begins
  pub low : begin begins f ≤ p
  pub high : p < end begins f

-- the next place r of place p of facet f, by cases
data Goes (begins : List ℕ) (f p r : ℕ) : Type 0 where
  wraps : p + 1 ≡ end begins f → r ≡ begin begins f → Goes begins f p r
  on : (p + 1 ≡ end begins f → ⊥) → r ≡ p + 1 → Goes begins f p r

goes : (begins : List ℕ) (p : ℕ) → Goes begins (home_of begins p) p (next_of begins p)
unfolding next_of
goes begins p = go (home_of begins p) (eqb (p + 1) (get_or begins (home_of begins p + 1) 0)) refl
  where
    go : (f : ℕ) (t : Bool) → eqb (p + 1) (end begins f) ≡ t → Goes begins f p (cond t (begin begins f) (p + 1))
    go f true e = wraps (eqb-true _ _ e) refl
    go f false e = on (eqb-false _ _ e) refl

module _ {corners begins : List ℕ} (L : Laid corners begins) where
  open L use {start, finish, rise}

  rises : (g d : ℕ) → g + d < length begins → get_or begins g 0 ≤ get_or begins (g + d) 0
  rises g zero l = simp add-zero (le_refl _)
  rises g (suc d) l =
      let e : g + suc d ≡ g + d + 1 = omega arith in
      rw e (omega (arith, rises g d (omega arith), rise (g + d) (omega arith)))

  pub home_is : {f p : ℕ} → In begins f p → f ≡ home_of begins p
  unfolding home_of
  home_is {f} {p} i =
      lowest-first (record {
        below = omega (arith, i.facet);
        holds = lt-ltb _ _ i.high;
        before = λ k l. le-ltb p (get_or begins (k + 1) 0) (before l);
      })
    where
      before : {k : ℕ} → k < f → get_or begins (k + 1) 0 ≤ p
      before {k} l =
          let e : k + 1 + (f - (k + 1)) ≡ f = omega arith in
          omega (arith, rw e at (rises (k + 1) (f - (k + 1)) (rw e (omega (arith, i.facet)))), i.low)

  find : (p f : ℕ) → f < length begins → p < begin begins f → (g : ℕ) × In begins g p
  find p zero l h = absurd (omega (arith, start))
  find p (suc f) l h = elim (dec_lt p (begin begins f)) [
    | yes b ↦ find p f (omega arith) b
    | no b ↦ (f, record { facet = omega arith; low = omega arith; high = rw add-one h })
  ]

  pub home : {p : ℕ} → p < length corners → In begins (home_of begins p) p
  home {p} l = let (g, i) = find p (length begins - 1) (omega (arith, L.some)) (rw finish l) in rw (home_is i) at i

  in_run : {f p : ℕ} → In begins f p → p < length corners
  in_run {f} {p} i =
      let e : f + 1 + (length begins - 1 - (f + 1)) ≡ length begins - 1 = omega (arith, i.facet) in
      omega (arith, finish, i.high, rw e at (rises (f + 1) (length begins - 1 - (f + 1)) (rw e (omega (arith, L.some)))))

  -- the order of places is that of facets, and in a facet that of positions
  pub home_rise : {p q : ℕ} → p ≤ q → q < length corners → home_of begins p ≤ home_of begins q
  home_rise {p} {q} h l = elim (dec_lt (home_of begins q) (home_of begins p)) [
    | yes b ↦
        let f = home_of begins p in
        let g = home_of begins q in
        let e : g + 1 + (f - (g + 1)) ≡ f = omega arith in
        let i = home {p = p} (omega arith) in
        absurd (omega (arith, (home l).high, i.low, rw e at (rises (g + 1) (f - (g + 1)) (rw e (omega (arith, i.facet))))))
    | no b ↦ omega arith
  ]

  next-in : {p : ℕ} → p < length corners → In begins (home_of begins p) (next_of begins p)
  next-in {p} l =
      let i = home l in
      let r = rise (home_of begins p) i.facet in
      elim (goes begins p) [
        | wraps a b ↦ record { facet = i.facet; low = omega arith; high = omega (arith, i.low) }
        | on a b ↦ record { facet = i.facet; low = omega (arith, i.low); high = omega (arith, i.high) }
      ]

  pub next-below : {p : ℕ} → p < length corners → next_of begins p < length corners
  next-below l = in_run (next-in l)

  pub next-home : {p : ℕ} → p < length corners → home_of begins (next_of begins p) ≡ home_of begins p
  next-home l = sym (home_is (next-in l))

  pub next-once : {p q : ℕ} → p < length corners → q < length corners → next_of begins p ≡ next_of begins q → p ≡ q
  next-once {p} {q} l m e =
      let s : home_of begins p ≡ home_of begins q = sym (next-home l) ∙ ap (home_of begins) e ∙ next-home m in
      go s (home l) (home m) (goes begins p) (goes begins q)
    where
      go : {f g : ℕ} → f ≡ g → In begins f p → In begins g q → Goes begins f p (next_of begins p) → Goes begins g q (next_of begins q) → p ≡ q
      go {f} {g} s i j c d =
          let s0 = ap (λ k. get_or begins k 0) s in
          let s1 = ap (λ k. get_or begins (k + 1) 0) s in
          elim c [
            | wraps a b ↦ elim d [ wraps x y ↦ omega arith | on x y ↦ omega arith ]
            | on a b ↦ elim d [ wraps x y ↦ omega arith | on x y ↦ omega arith ]
          ]

-- ---- along a facet

module _ {corners begins : List ℕ} (L : Laid corners begins) {f p : ℕ} (i : In begins f p) where
  at : Goes begins f p (next_of begins p)
  at = rw (home_is L i) (goes begins p)

  pub next_up : p + 1 < end begins f → next_of begins p ≡ p + 1
  next_up l = elim at [ wraps a b ↦ absurd (omega arith) | on a b ↦ b ]

  pub next-wrap : p + 1 ≡ end begins f → next_of begins p ≡ begin begins f
  next-wrap e = elim at [ wraps a b ↦ b | on a b ↦ absurd (a e) ]

  pub in_facet : p < length corners
  in_facet = in_run L i

-- three sides or more
pub next-next_not : {corners begins : List ℕ} {p : ℕ} → Laid corners begins → p < length corners → next_of begins (next_of begins p) ≡ p → ⊥
next-next_not {begins = begins} {p = p} L l e =
    let i = home L l in
    let r = L.rise (home_of begins p) i.facet in
    let g : Goes begins (home_of begins p) (next_of begins p) (next_of begins (next_of begins p)) = rw (← next-home L l) (goes begins (next_of begins p)) in
    elim (goes begins p) [
      | wraps a b ↦ elim g [ wraps c d ↦ omega arith | on c d ↦ omega arith ]
      | on a b ↦ elim g [ wraps c d ↦ omega arith | on c d ↦ omega arith ]
    ]

-- ---- a facet's part, and its positions as places

module _ {corners begins : List ℕ} (L : Laid corners begins) {f : ℕ} (l : f < facets begins) where
  facet_in : f + 1 < length begins
  facet_in = omega (arith, L.some)

  pub end-in_run : end begins f ≤ length corners
  end-in_run =
      let r = L.rise f facet_in in
      let i : In begins f (end begins f - 1) = record { facet = facet_in; low = omega (arith, r); high = omega (arith, r) } in
      omega (arith, in_run L i)

  pub sides-few : sides begins f ≤ most_sides
  sides-few = omega (arith, L.narrow f facet_in)

  pub sides-some : 3 ≤ sides begins f
  sides-some = omega (arith, L.rise f facet_in)

  pub part_length : length (facet_of corners begins f) ≡ sides begins f
  part_length = simp (length-take, length-drop) (omega (arith, end-in_run))

  module _ {p : ℕ} (h : p < sides begins f) where
    pub corner-at : corner_of corners begins f p ≡ from corners (begin begins f + p)
    corner-at = rw (get_or-take (sides begins f) (drop (begin begins f) corners) p 0 h, get_or-drop)

    pub place_in : In begins f (begin begins f + p)
    place_in = record { facet = facet_in; low = omega arith; high = omega arith }

    pub place-below : begin begins f + p < length corners
    place-below = omega (arith, end-in_run)
