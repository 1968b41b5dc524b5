-- The other side of an edge, where PAIR applies nowhere: the place of its reverse. Assumes nothing.
use Rattle.std.specs.Prelude.{◌≡◌, refl, Bool, true, false, not, List, ℕ, ◌-◌, ◌≤◌, ◌<◌, eqb, ltb, None}
use Rattle.std.proofs.Common.{sym, ap, ◌∙◌, arith}
use Rattle.std.proofs.Math.ListN.{length}
use borrow.Author.Tests.{eqb-true, eq-eqb, ltb-false, le-ltb, not-false}
use Rattle.whole.specs.Count.{last_below, count-but, last, once, some_last, both, neither}
use Rattle.whole.specs.Orbit.{cover}
use Rattle.tables.specs.Tables.{most_corners, home_of, next_of, from, to}
use Rattle.tables.specs.Size.{Laid}
use Rattle.tables.specs.Places.{Single, next-below, next-home, next-next_not}
use Rattle.tables.specs.Search.{place_of}
use Rattle.index.specs.Entries.{home_at, across_at}
use Rattle.index.specs.declared.Edge.{Edge}
use Rattle.edges.specs.Edge.{is_edge, last_edge, across_of, facet_across}
use Rattle.edges.specs.Index.{Indexed, home_is, across_at-is, across_at-below, small}
use Rattle.pair.specs.Pair.{times, unpaired, pair, Paired, pair-none, paired_none}

-- q is a place of the reverse of the edge at p
pub record Reverse (corners begins : List ℕ) (p q : ℕ) : Type 0 where
  pub below : q < length corners
  pub starts : from corners q ≡ to corners begins p
  pub ends : to corners begins q ≡ from corners p

edge : (corners begins : List ℕ) (p : ℕ) {a b : ℕ} → from corners p ≡ a → to corners begins p ≡ b → is_edge corners begins a b p ≡ true
edge corners begins p s e = rw (eq-eqb _ _ s, eq-eqb _ _ e)

module _ {corners begins : List ℕ} (P : Paired corners begins) where
  -- what PAIR says of the edge at p
  occurs : {p : ℕ} → p < length corners
      → (times corners begins (from corners p) (to corners begins p) ≤ 1) × (times corners begins (to corners begins p) (from corners p) ≡ 1)
  occurs {p} l =
      let n = times corners begins (from corners p) (to corners begins p) in
      let m = times corners begins (to corners begins p) (from corners p) in
      let e = neither (ltb 1 n) (not (eqb m 1)) (P.paired p l) in
      (ltb-false 1 n e.0, eqb-true m 1 (not-false (eqb m 1) e.1))

  pub some_reverse : {p : ℕ} → p < length corners → 0 < last_edge corners begins (to corners begins p) (from corners p)
  some_reverse {p} l = some_last (is_edge corners begins (to corners begins p) (from corners p)) (length corners) (omega (arith, (occurs l).1))

  pub across : {p : ℕ} → p < length corners → Reverse corners begins p (across_of corners begins p)
  unfolding across_of
  across {p} l =
      let f = is_edge corners begins (to corners begins p) (from corners p) in
      let k = last f (length corners) in
      let h = some_reverse l in
      let b : last_below f (length corners) - 1 < length corners = omega (arith, k.upto, h) in
      let e = both _ _ (k.holds (last_below f (length corners) - 1) (omega (arith, h))) in
      record { below = b; starts = eqb-true _ _ e.0; ends = eqb-true _ _ e.1 }

  -- an edge occurs once
  pub edge-once : {p q : ℕ} → p < length corners → q < length corners → from corners p ≡ from corners q → to corners begins p ≡ to corners begins q → p ≡ q
  edge-once {p} {q} l m s e =
      let here = edge corners begins p refl refl in
      let there = edge corners begins q (sym s) (sym e) in
      once (is_edge corners begins (from corners p) (to corners begins p)) (length corners) p q (occurs l).0 l m here there

  -- across is its own inverse
  pub across_twice : {p : ℕ} → p < length corners → across_of corners begins (across_of corners begins p) ≡ p
  across_twice {p} l =
      let r = across l in
      let t = across r.below in
      edge-once t.below l (t.starts ∙ r.ends) (t.ends ∙ r.starts)

  pub across_once : {p q : ℕ} → p < length corners → q < length corners → across_of corners begins p ≡ across_of corners begins q → p ≡ q
  across_once l m e = sym (across_twice l) ∙ ap (across_of corners begins) e ∙ across_twice m

  -- it leads to another facet, so never to the same place
  module _ (L : Laid corners begins) (S : Single corners begins) {p : ℕ} (l : p < length corners) where
    pub other_facet : home_of begins (across_of corners begins p) ≡ home_of begins p → ⊥
    other_facet h =
        let q = across_of corners begins p in
        let r = across l in
        let n = next-below L l in
        let m = next-below L n in
        let s : q ≡ next_of begins p = S.repeats q _ r.below n (h ∙ sym (next-home L l)) r.starts in
        let e : from corners (next_of begins (next_of begins p)) ≡ from corners p = ap (to corners begins) (sym s) ∙ r.ends in
        next-next_not L l (S.repeats _ p m l (next-home L n ∙ next-home L l) e)

    pub other_place : across_of corners begins p ≡ p → ⊥
    other_place e = other_facet (ap (home_of begins) e)

-- ---- the meaning: PAIR applies nowhere exactly where no edge occurs twice and each has a reverse

pub record Matched (corners begins : List ℕ) : Type 0 where
  pub once : (p q : ℕ) → p < length corners → q < length corners → from corners p ≡ from corners q → to corners begins p ≡ to corners begins q → p ≡ q
  pub reverse : (p : ℕ) → p < length corners → (q : ℕ) × Reverse corners begins p q

pub matched : {corners begins : List ℕ} → Paired corners begins → Matched corners begins
matched P = record { once = λ p q l m s e. edge-once P l m s e; reverse = λ p l. (_, across P l) }

module _ {corners begins : List ℕ} (M : Matched corners begins) where
  few : (a b : ℕ) → times corners begins a b ≤ 1
  few a b = cover f (length corners) 1 (λ i. last_below f (length corners) - 1) (λ q l e. (0, omega arith, is q l e))
    where
      f : ℕ → Bool
      f = is_edge corners begins a b

      is : (q : ℕ) → q < length corners → f q ≡ true → last_below f (length corners) - 1 ≡ q
      is q l e =
          let k = last f (length corners) in
          let h = some_last f (length corners) (omega (arith, count-but f q (length corners) l e)) in
          let x = both _ _ (k.holds (last_below f (length corners) - 1) (omega (arith, h))) in
          let y = both _ _ e in
          M.once _ q (omega (arith, k.upto, h)) l (eqb-true _ _ x.0 ∙ sym (eqb-true _ _ y.0)) (eqb-true _ _ x.1 ∙ sym (eqb-true _ _ y.1))

  pub paired_if : Paired corners begins
  paired_if = record { paired = λ p l. go p l (M.reverse p l) }
    where
      go : (p : ℕ) → p < length corners → (q : ℕ) × Reverse corners begins p q → unpaired corners begins p ≡ false
      go p l (q, r) =
          let a = from corners p in
          let b = to corners begins p in
          let n : times corners begins b a ≡ 1 =
          omega (arith, few b a, count-but (is_edge corners begins b a) q (length corners) r.below (edge corners begins q r.starts r.ends))
          in
          rw (le-ltb 1 (times corners begins a b) (few a b), eq-eqb _ _ n)

pub pair-means : {corners begins : List ℕ} → Laid corners begins → place_of (pair corners begins) ≡ None → Matched corners begins
pair-means L e = matched (pair-none L e)

pub means_pair : {corners begins : List ℕ} → Laid corners begins → Matched corners begins → place_of (pair corners begins) ≡ None
means_pair L M = paired_none L (paired_if M)

-- ---- what the index holds where PAIR applies nowhere

pub record Crossed (corners begins : List ℕ) (edges : List Edge) (heads : List ℕ) : Type 0 where
  pub indexed : Indexed corners begins edges heads
  pub paired : Paired corners begins

module _ {corners begins : List ℕ} {edges : List Edge} {heads : List ℕ} (C : Crossed corners begins edges heads) {p : ℕ} (l : p < length corners) where
  pub across_small : across_at edges p < most_corners
  across_small = small C.indexed (across_at-below C.indexed l)

  -- the facet across
  pub facet_across_lem : home_at edges (across_at edges p) ≡ facet_across corners begins p
  facet_across_lem = home_is C.indexed (across_at-below C.indexed l) ∙ ap (home_of begins) (across_at-is C.indexed l)
