-- "Within it, the first place wins": searches for the first place at which a rule applies, and what their answers mean. Assumes nothing.
use Rattle.std.specs.Prelude.{◌≡◌, refl, Bool, true, false, cond, ℕ, ◌+◌, ◌≤◌, ◌<◌, Option, Some, None}
use Rattle.std.proofs.Common.{sym, ◌∙◌, ap, arith, ltb-true}
use Rattle.whole.specs.First.{first_below, any_below, pick_below, Nowhere, Lowest, first_lowest, lowest-first}
use Rattle.whole.specs.First.{pick-lowest, pick-nowhere, found_below, found-lowest, found-nowhere, any_none, any_is, any_false}
use Rattle.whole.specs.First.{NoneYet, yet_0, yet_more, hit, miss}

-- "lowest vertex", and so with facets
abbrev pub lowest : ℕ → (ℕ → Bool) → Option (ℕ × ℕ)
lowest n test = pick_below test n (λ v. Some (v, 0)) None

-- "lowest facet and then lowest position or vertex": facet f has sizes f of these
abbrev pub somewhere : (ℕ → ℕ) → (ℕ → ℕ → Bool) → ℕ → Bool
somewhere sizes test f = any_below (test f) (sizes f)

abbrev pub within : (ℕ → ℕ) → (ℕ → ℕ → Bool) → ℕ → Option (ℕ × ℕ)
within sizes test f = Some (f, first_below (test f) (sizes f))

abbrev pub first_place : ℕ → (ℕ → ℕ) → (ℕ → ℕ → Bool) → Option (ℕ × ℕ)
first_place n sizes test = pick_below (somewhere sizes test) n (within sizes test) None

-- two places are one
pub one_place : {a b c d : ℕ} → ◌≡◌ {A = Option (ℕ × ℕ)} (Some (a, b)) (Some (c, d)) → (a ≡ c) × (b ≡ d)
one_place {a} {b} {c} {d} e = let z : ◌≡◌ {A = ℕ × ℕ} (a, b) (c, d) = cc in (ap (λ p. p.0) z, ap (λ p. p.1) z)

-- ---- what the answers mean

-- the rule applies at (f, p), and at no place before
pub record First (n : ℕ) (sizes : ℕ → ℕ) (test : ℕ → ℕ → Bool) (f p : ℕ) : Type 0 where
  pub facet : f < n
  pub place : Lowest (test f) (sizes f) p
  pub earlier : (g q : ℕ) → g < f → q < sizes g → test g q ≡ false

abbrev pub NoPlace : ℕ → (ℕ → ℕ) → (ℕ → ℕ → Bool) → Type 0
NoPlace n sizes test = (f p : ℕ) → f < n → p < sizes f → test f p ≡ false

-- a search's answer, read by cases
pub data Searched (n : ℕ) (test : ℕ → Bool) : Option (ℕ × ℕ) → Type 0 where
  found_at : {v : ℕ} → Lowest test n v → Searched n test (Some (v, 0))
  found_none : Nowhere test n → Searched n test None

pub data Sought (n : ℕ) (sizes : ℕ → ℕ) (test : ℕ → ℕ → Bool) : Option (ℕ × ℕ) → Type 0 where
  place_at : {f p : ℕ} → First n sizes test f p → Sought n sizes test (Some (f, p))
  place_none : NoPlace n sizes test → Sought n sizes test None

pub searched : (n : ℕ) (test : ℕ → Bool) → Searched n test (lowest n test)
searched n test = go (any_below test n) refl
  where
    go : (t : Bool) → any_below test n ≡ t → Searched n test (cond t (Some (first_below test n, 0)) None)
    go true e = found_at (first_lowest test n (ltb-true _ _ e))
    go false e = found_none (any_false test n e)

pub sought : (n : ℕ) (sizes : ℕ → ℕ) (test : ℕ → ℕ → Bool) → Sought n sizes test (first_place n sizes test)
sought n sizes test = go (any_below some n) refl
  where
    some : ℕ → Bool
    some = somewhere sizes test

    none : (g : ℕ) → some g ≡ false → Nowhere (test g) (sizes g)
    none g = any_false (test g) (sizes g)

    go : (t : Bool) → any_below some n ≡ t → Sought n sizes test (cond t (within sizes test (first_below some n)) None)
    go true e =
        let h = first_lowest some n (ltb-true _ _ e) in
        let f = first_below some n in
        place_at (record {
          facet = h.below;
          place = first_lowest (test f) (sizes f) (ltb-true _ _ h.holds);
          earlier = λ g q b. none g (h.before g b) q;
        })
    go false e = place_none (λ f p l. none f (any_false some n e f l) p)

-- a search that found nothing
pub lowest-none : (n : ℕ) (test : ℕ → Bool) → lowest n test ≡ None → Nowhere test n
lowest-none n test = go (searched n test)
  where
    go : {r : Option (ℕ × ℕ)} → Searched n test r → r ≡ None → Nowhere test n
    go (found_at h) e = let z : ◌≡◌ {A = ℕ} 0 1 = cc in absurd (omega arith)
    go (found_none h) e = h

pub first_none : (n : ℕ) (sizes : ℕ → ℕ) (test : ℕ → ℕ → Bool) → first_place n sizes test ≡ None → NoPlace n sizes test
first_none n sizes test = go (sought n sizes test)
  where
    go : {r : Option (ℕ × ℕ)} → Sought n sizes test r → r ≡ None → NoPlace n sizes test
    go (place_at h) e = let z : ◌≡◌ {A = ℕ} 0 1 = cc in absurd (omega arith)
    go (place_none h) e = h

-- and the other way: no two answers fit
pub lowest-is : {n : ℕ} {test : ℕ → Bool} {v : ℕ} → Lowest test n v → lowest n test ≡ Some (v, 0)
lowest-is h = sym (pick-lowest (λ v. Some (v, 0)) None h)

pub nowhere_is : {n : ℕ} {test : ℕ → Bool} → Nowhere test n → lowest n test ≡ None
nowhere_is h = sym (pick-nowhere (λ v. Some (v, 0)) None h)

pub first_is : {n : ℕ} {sizes : ℕ → ℕ} {test : ℕ → ℕ → Bool} {f p : ℕ} → First n sizes test f p → first_place n sizes test ≡ Some (f, p)
first_is {sizes} {test} {f} {p} h =
    sym (pick-lowest (within sizes test) None (record {
      below = h.facet;
      holds = any_is (test f) (sizes f) p h.place.below h.place.holds;
      before = λ g l. any_none (test g) (sizes g) (λ q. h.earlier g q l);
    }))
    ∙ ap (λ p. Some (f, p)) (sym (lowest-first h.place))

pub no_place_is : {n : ℕ} {sizes : ℕ → ℕ} {test : ℕ → ℕ → Bool} → NoPlace n sizes test → first_place n sizes test ≡ None
no_place_is {sizes} {test} h = sym (pick-nowhere (within sizes test) None (λ f l. any_none (test f) (sizes f) (λ p. h f p l)))

-- ---- a loop over n vertices or facets that has passed those before v, and tests each

-- what a test of one at a time answers
abbrev pub Tests : (ℕ → Bool → Type 0) → ℕ → (ℕ → Bool) → Type 0
Tests post n test = (v : ℕ) (b : Bool) → v < n → post v b → b ≡ test v

module _ {n : ℕ} {test : ℕ → Bool} {v : ℕ} (yet : NoneYet test n v) where
  pub lowest-hit : test v ≡ true → v < n → Some (v, 0) ≡ lowest n test
  lowest-hit e l = hit yet e l (λ v. Some (v, 0)) None

  pub lowest-end : n ≤ v → None ≡ lowest n test
  lowest-end m = miss yet m (λ v. Some (v, 0)) None

-- ---- a loop over n facets, of sizes f places each, that has passed those before f, and searches each

-- what a search of one at a time finds
abbrev pub Finds : (ℕ → Option ℕ → Type 0) → ℕ → (ℕ → ℕ) → (ℕ → ℕ → Bool) → Type 0
Finds post n sizes test = (f : ℕ) (r : Option ℕ) → f < n → post f r → r ≡ found_below (test f) (sizes f)

pub record Free (n : ℕ) (sizes : ℕ → ℕ) (test : ℕ → ℕ → Bool) (f : ℕ) : Type 0 where
  pub yet : NoneYet (somewhere sizes test) n f

pub free_0 : (n : ℕ) (sizes : ℕ → ℕ) (test : ℕ → ℕ → Bool) → Free n sizes test 0
free_0 n sizes test = record { yet = yet_0 }

module _ {n : ℕ} {sizes : ℕ → ℕ} {test : ℕ → ℕ → Bool} {f : ℕ} (free : Free n sizes test f) where
  -- the first place of facet f at which the rule applies, or none
  module _ (l : f < n) where
    pub free_hit : {p : ℕ} → Some p ≡ found_below (test f) (sizes f) → Some (f, p) ≡ first_place n sizes test
    free_hit e =
        let h = found-lowest _ _ (sym e) in
        ap (λ p. Some (f, p)) (lowest-first h) ∙ hit free.yet (any_is _ _ _ h.below h.holds) l (within sizes test) None

    pub free_more : None ≡ found_below (test f) (sizes f) → Free n sizes test (f + 1)
    free_more e = record { yet = yet_more free.yet (any_none _ _ (found-nowhere _ _ (sym e))) l }

  pub free_all : n ≤ f → None ≡ first_place n sizes test
  free_all m = miss free.yet m (within sizes test) None
