-- A rule that looks at one facet's part of the run at a time, and the loop that finds its first place. Assumes nothing.
use Rattle.std.specs.Prelude.{◌≡◌, Bool, List, ℕ, ◌+◌, ◌≤◌, ◌<◌, length, Option, Some, None}
use Rattle.whole.specs.First.{first_below, found_below, found_first, found_nothing}
use Rattle.tables.specs.Tables.{facets, sides, facet_of}
use Rattle.tables.specs.Size.{Laid}
use Rattle.tables.specs.Places.{part_length}
use Rattle.tables.specs.Found.{Finds, Free, free_0, free_hit, free_more, free_all}
use Rattle.tables.specs.Search.{Search, of_places, place_of}

-- the test of a position, on each facet's part
abbrev pub on_facets : List ℕ → List ℕ → (List ℕ → ℕ → Bool) → ℕ → ℕ → Bool
on_facets corners begins test f = test (facet_of corners begins f)

-- at each position of each facet's part
abbrev pub in_facets : List ℕ → List ℕ → (List ℕ → ℕ → Bool) → Search
in_facets corners begins test = of_places (facets begins) (sides begins) (on_facets corners begins test)

-- what a search of one facet's part at a time finds
pub finds_in : (test : List ℕ → ℕ → Bool) {corners begins : List ℕ} {post : ℕ → Option ℕ → Type 0} → Laid corners begins
    → ((f : ℕ) (r : Option ℕ) → f < facets begins → post f r → r ≡ found_below (test (facet_of corners begins f)) (length (facet_of corners begins f)))
    → Finds post (facets begins) (sides begins) (on_facets corners begins test)
finds_in test laid h f r l e = rw (part_length laid l) at (h f r l e)

-- a loop over the facets that has passed those before f
pub record Clear (corners begins : List ℕ) (test : List ℕ → ℕ → Bool) (f : ℕ) : Type 0 where
  pub free : Free (facets begins) (sides begins) (on_facets corners begins test) f

pub clear_0 : {corners begins : List ℕ} {test : List ℕ → ℕ → Bool} → Clear corners begins test 0
clear_0 = record { free = free_0 _ _ _ }

module _ {corners begins : List ℕ} {test : List ℕ → ℕ → Bool} {f : ℕ} (clear : Clear corners begins test f) where
  -- p is the first position at which the test holds in facet f's part, or its length
  module _ {part : List ℕ} {p : ℕ} (laid : Laid corners begins) (l : f < facets begins) (is : part ≡ facet_of corners begins f)
      (first : p ≡ first_below (test part) (length part)) where
    pub clear_hit : p < length part → Some (f, p) ≡ place_of (in_facets corners begins test)
    clear_hit h = free_hit clear.free l (found_first _ _ (rw (is, part_length laid l) at first) (rw (is, part_length laid l) at h))

    pub clear_more : length part ≤ p → Clear corners begins test (f + 1)
    clear_more h = record { free = free_more clear.free l (found_nothing _ _ (rw (is, part_length laid l) at first) (rw (is, part_length laid l) at h)) }

  pub clear_all : facets begins ≤ f → None ≡ place_of (in_facets corners begins test)
  clear_all = free_all clear.free
