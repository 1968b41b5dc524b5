-- Where a rule is looked for, its first place there, and what it means that it applies first at a place, or nowhere. Assumes nothing.
use Rattle.std.specs.Prelude.{◌≡◌, refl, Bool, true, false, cond, ℕ, Option, Some, None}
use Rattle.std.proofs.Common.{sym, arith}
use Rattle.whole.specs.First.{Nowhere, Lowest}
use Rattle.tables.specs.Found.{one_place, lowest, first_place, First, NoPlace, Searched, Sought, found_at, found_none, place_at, place_none}
use Rattle.tables.specs.Found.{searched, sought, lowest-none, first_none, lowest-is, nowhere_is, first_is, no_place_is}

-- in the tables as a whole; at each of n vertices or facets; at each of the so many positions or vertices of n facets
pub data Search : Type 0 where
  of_all : Bool → Search
  of_each : ℕ → (ℕ → Bool) → Search
  of_places : ℕ → (ℕ → ℕ) → (ℕ → ℕ → Bool) → Search

-- "Within it, the first place wins: lowest vertex, or lowest facet and then lowest position or vertex."
abbrev pub place_of : Search → Option (ℕ × ℕ)
place_of (of_all test) = cond test (Some (0, 0)) None
place_of (of_each n test) = lowest n test
place_of (of_places n counts test) = first_place n counts test

-- what it means that a rule applies first at a place ..
abbrev pub AppliesFirst : Search → ℕ → ℕ → Type 0
AppliesFirst (of_all test) a b = (test ≡ true) × ((a ≡ 0) × (b ≡ 0))
AppliesFirst (of_each n test) a b = Lowest test n a × (b ≡ 0)
AppliesFirst (of_places n counts test) a b = First n counts test a b

-- .. and that it applies nowhere
abbrev pub AppliesNever : Search → Type 0
AppliesNever (of_all test) = test ≡ false
AppliesNever (of_each n test) = Nowhere test n
AppliesNever (of_places n counts test) = NoPlace n counts test

-- a place isn't nothing
pub differ : {a b : ℕ} → ◌≡◌ {A = Option (ℕ × ℕ)} (Some (a, b)) None → ⊥
differ e = let z : ◌≡◌ {A = ℕ} 0 1 = cc in omega arith

pub applies_first : (s : Search) {a b : ℕ} → place_of s ≡ Some (a, b) → AppliesFirst s a b
applies_first (of_all true) e = let (x, y) = one_place (sym e) in (refl, (x, y))
applies_first (of_all false) e = absurd (differ (sym e))
applies_first (of_each n test) e = go (searched n test) e
  where
    go : {r : Option (ℕ × ℕ)} {a b : ℕ} → Searched n test r → r ≡ Some (a, b) → Lowest test n a × (b ≡ 0)
    go {a = a} (found_at {v} h) e = let (s, t) = one_place e in (rw (← s) h, sym t)
    go (found_none h) e = absurd (differ (sym e))
applies_first (of_places n counts test) e = go (sought n counts test) e
  where
    go : {r : Option (ℕ × ℕ)} {a b : ℕ} → Sought n counts test r → r ≡ Some (a, b) → First n counts test a b
    go {a = a} {b = b} (place_at {f} {p} h) e = let (s, t) = one_place e in rw (← s, ← t) h
    go (place_none h) e = absurd (differ (sym e))

pub first_applies : (s : Search) {a b : ℕ} → AppliesFirst s a b → place_of s ≡ Some (a, b)
first_applies (of_all test) (t, (x, y)) = rw (t, x, y)
first_applies (of_each n test) (h, y) = rw y (lowest-is h)
first_applies (of_places n counts test) h = first_is h

pub applies_never : (s : Search) → place_of s ≡ None → AppliesNever s
applies_never (of_all true) e = absurd (differ e)
applies_never (of_all false) e = refl
applies_never (of_each n test) e = lowest-none n test e
applies_never (of_places n counts test) e = first_none n counts test e

pub never_applies : (s : Search) → AppliesNever s → place_of s ≡ None
never_applies (of_all test) h = rw h
never_applies (of_each n test) h = nowhere_is h
never_applies (of_places n counts test) h = no_place_is h
