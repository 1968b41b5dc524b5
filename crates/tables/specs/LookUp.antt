-- The facet look-up: what the part that it hands back holds, and where it begins. Assumes nothing.
use Rattle.std.specs.Prelude.{◌≡◌, refl, Bool, true, false, cond, not, ◌&&◌, List, [], ℕ, ◌<◌, ltb, ℤ, length}
use Rattle.std.proofs.Common.{arith, ltb-true}
use Rattle.std.proofs.lemmas.Bool.{not-true}
use Rattle.whole.specs.Count.{both}
use Rattle.tables.specs.Tables.{facets, begin, facet_of}
use Rattle.tables.specs.Size.{is_size, Laid, sized}
use Rattle.tables.specs.Places.{part_length, sides-some}

-- "For tables that pass SIZE and a facet number below F"
abbrev pub is_facet : List ℤ → List ℕ → List ℕ → ℕ → Bool
is_facet points corners begins f = not (is_size points corners begins) && ltb f (facets begins)

-- "the facet look-up hands back that part of the lent run itself. Otherwise it hands back the empty part"
abbrev pub look_up : List ℤ → List ℕ → List ℕ → ℕ → List ℕ
look_up points corners begins f = cond (is_facet points corners begins f) (facet_of corners begins f) []

-- where that part begins in the run; the empty part lies "at the run's beginning"
abbrev pub look_up_at : List ℤ → List ℕ → List ℕ → ℕ → ℕ
look_up_at points corners begins f = cond (is_facet points corners begins f) (begin begins f) 0

-- "a real facet is never empty": the part's length tells which of the two was handed back
module _ (points : List ℤ) (corners begins : List ℕ) (f : ℕ) where
  facet-there : is_facet points corners begins f ≡ true → Laid corners begins × (f < facets begins)
  facet-there e =
      let (passed, below) = both (not (is_size points corners begins)) (ltb f (facets begins)) e in
      ((sized points corners begins (not-true _ passed)).laid, ltb-true f (facets begins) below)

  pub look_up-refused : length (look_up points corners begins f) ≡ 0 → look_up_at points corners begins f ≡ 0
  look_up-refused = go (is_facet points corners begins f) refl
    where
      go : (t : Bool) → is_facet points corners begins f ≡ t → length (cond t (facet_of corners begins f) []) ≡ 0 → cond t (begin begins f) 0 ≡ 0
      go true e h = let (laid, below) = facet-there e in absurd (omega (arith, part_length laid below, sides-some laid below))
      go false e h = refl

  pub look_up-there : (length (look_up points corners begins f) ≡ 0 → ⊥) → (f < length begins) × (look_up_at points corners begins f ≡ begin begins f)
  look_up-there = go (is_facet points corners begins f) refl
    where
      go : (t : Bool) → is_facet points corners begins f ≡ t → (length (cond t (facet_of corners begins f) []) ≡ 0 → ⊥)
          → (f < length begins) × (cond t (begin begins f) 0 ≡ begin begins f)
      go true e h = (omega (arith, (facet-there e).1), refl)
      go false e h = absurd (h refl)
