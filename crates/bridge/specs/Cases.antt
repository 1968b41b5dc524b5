-- Cases of the sheet, and of its readings, by computation: PAIR, RING and APART. Assumes nothing.
use Rattle.std.specs.Prelude.{◌≡◌, refl, List, [], ◌∷◌, ℕ, ℤ, pos, Option, Some, None}
use Rattle.whole.specs.First.{first_below}
use Rattle.whole.specs.Count.{count_below, last_below}
use Rattle.whole.specs.Orbit.{iterate}
use Rattle.whole.specs.Rounds.{tab, rounds}
use Rattle.tables.specs.Tables.{home_of, next_of}
use Rattle.tables.specs.Size.{is_size}
use Rattle.tables.specs.Places.{Sound, Single}
use Rattle.tables.specs.Search.{place_of}
use Rattle.pair.specs.Pair.{pair, Paired, pair-none}
use Rattle.edges.specs.Edge.{across_of}
use Rattle.bridge.specs.Lower.{all_sound, repeat-single}
use Rattle.ring.specs.Step.{round_of}
use Rattle.ring.specs.Ring.{ring}
use Rattle.apart.specs.Apart.{flooded, apart}

-- what PAIR, RING and APART find
pub record Finds (n : ℕ) (corners begins : List ℕ) (six seven eight : Option (ℕ × ℕ)) : Type 0 where
  pub in_pair : place_of (pair corners begins) ≡ six
  pub in_ring : place_of (ring n corners begins) ≡ seven
  pub in_apart : place_of (apart corners begins) ≡ eight

-- solid T
abbrev corners : List ℕ
corners = 0 ∷ 2 ∷ 1 ∷ 0 ∷ 1 ∷ 3 ∷ 0 ∷ 3 ∷ 2 ∷ 1 ∷ 2 ∷ 3 ∷ []

abbrev points : List ℤ
points = pos 0 ∷ pos 0 ∷ pos 0 ∷ pos 1 ∷ pos 0 ∷ pos 0 ∷ pos 0 ∷ pos 1 ∷ pos 0 ∷ pos 0 ∷ pos 0 ∷ pos 1 ∷ []

abbrev four : List ℕ
four = 0 ∷ 3 ∷ 6 ∷ 9 ∷ 12 ∷ []

abbrev eight : List ℕ
eight = 0 ∷ 3 ∷ 6 ∷ 9 ∷ 12 ∷ 15 ∷ 18 ∷ 21 ∷ 24 ∷ []

case_A : Finds 4 corners four None None None
unfolding first_below count_below last_below iterate tab rounds home_of next_of across_of round_of flooded
case_A = record { in_pair = refl; in_ring = refl; in_apart = refl }

case_G : place_of (pair (0 ∷ 2 ∷ 1 ∷ 0 ∷ 1 ∷ 3 ∷ 0 ∷ 3 ∷ 2 ∷ 1 ∷ 3 ∷ 2 ∷ []) four) ≡ Some (0, 1)
unfolding first_below count_below last_below home_of next_of
case_G = refl

case_I : Finds 7
    (0 ∷ 1 ∷ 5 ∷ 1 ∷ 2 ∷ 5 ∷ 2 ∷ 3 ∷ 5 ∷ 3 ∷ 4 ∷ 5 ∷ 4 ∷ 0 ∷ 5 ∷ 1 ∷ 0 ∷ 6 ∷ 2 ∷ 1 ∷ 6 ∷ 3 ∷ 2 ∷ 6 ∷ 4 ∷ 3 ∷ 6 ∷ 0 ∷ 4 ∷ 6 ∷ [])
    (0 ∷ 3 ∷ 6 ∷ 9 ∷ 12 ∷ 15 ∷ 18 ∷ 21 ∷ 24 ∷ 27 ∷ 30 ∷ []) None None None
unfolding first_below count_below last_below iterate tab rounds home_of next_of across_of round_of flooded
case_I = record { in_pair = refl; in_ring = refl; in_apart = refl }

-- two solids that share vertex 0: "RING there, not APART", since RING comes first
shared : Finds 7
    (0 ∷ 2 ∷ 1 ∷ 0 ∷ 1 ∷ 3 ∷ 0 ∷ 3 ∷ 2 ∷ 1 ∷ 2 ∷ 3 ∷ 0 ∷ 5 ∷ 4 ∷ 0 ∷ 4 ∷ 6 ∷ 0 ∷ 6 ∷ 5 ∷ 4 ∷ 5 ∷ 6 ∷ [])
    eight None (Some (0, 0)) (Some (4, 0))
unfolding first_below count_below last_below iterate tab rounds home_of next_of across_of round_of flooded
shared = record { in_pair = refl; in_ring = refl; in_apart = refl }

-- two solids that share nothing
separate : Finds 8
    (0 ∷ 2 ∷ 1 ∷ 0 ∷ 1 ∷ 3 ∷ 0 ∷ 3 ∷ 2 ∷ 1 ∷ 2 ∷ 3 ∷ 4 ∷ 6 ∷ 5 ∷ 4 ∷ 5 ∷ 7 ∷ 4 ∷ 7 ∷ 6 ∷ 5 ∷ 6 ∷ 7 ∷ [])
    eight None None (Some (4, 0))
unfolding first_below count_below last_below iterate tab rounds home_of next_of across_of round_of flooded
separate = record { in_pair = refl; in_ring = refl; in_apart = refl }

-- T with a vertex 4 on an edge: the two facets there make a ring
ring-of_two : Finds 5
    (0 ∷ 2 ∷ 1 ∷ 4 ∷ 0 ∷ 4 ∷ 1 ∷ 3 ∷ 0 ∷ 3 ∷ 2 ∷ 1 ∷ 2 ∷ 3 ∷ []) (0 ∷ 4 ∷ 8 ∷ 11 ∷ 14 ∷ []) None None None
unfolding first_below count_below last_below iterate tab rounds home_of next_of across_of round_of flooded
ring-of_two = record { in_pair = refl; in_ring = refl; in_apart = refl }

-- ---- the functions' `requires` can be met: T passes 1 to 6

T-sound : Sound 4 corners four
unfolding first_below is_size
T-sound = all_sound points refl refl

T-single : Single corners four
unfolding first_below
T-single = repeat-single T-sound.laid refl

T-paired : Paired corners four
T-paired = pair-none T-sound.laid case_A.in_pair
