-- "The solid's tables": sizes, facets, edges and limits.
use Rattle.std.specs.Prelude.{◌≡◌, ℕ, ◌+◌, ◌-◌, ◌/◌, ◌<◌, cond, List, ltb, eqb, length, get_or, take, drop}
use Rattle.whole.specs.First.{first_below}

-- "Vertices V: 4 to 1,024. Facets F: 4 to 2,048. Corners in all: at most 6,144", "facets of 3 to 12 corners"
abbrev pub least_vertices : ℕ
least_vertices = 4

abbrev pub most_vertices : ℕ
most_vertices = 1024

abbrev pub least_facets : ℕ
least_facets = 4

abbrev pub most_facets : ℕ
most_facets = 2048

abbrev pub most_corners : ℕ
most_corners = 6144

abbrev pub least_sides : ℕ
least_sides = 3

abbrev pub most_sides : ℕ
most_sides = 12

-- "for each facet the place in the run where it starts, then one last entry"
abbrev pub facets : List ℕ → ℕ
facets begins = length begins - 1

-- "E is half the corners"
abbrev pub edges : List ℕ → ℕ
edges corners = length corners / 2

-- where facet f starts in the run, where it ends, and how many corners it has
abbrev pub begin : List ℕ → ℕ → ℕ
begin begins f = get_or begins f 0

abbrev pub end : List ℕ → ℕ → ℕ
end begins f = get_or begins (f + 1) 0

abbrev pub sides : List ℕ → ℕ → ℕ
sides begins f = end begins f - begin begins f

-- "one facet's corners are a part of the run that starts in its middle"
abbrev pub facet_of : List ℕ → List ℕ → ℕ → List ℕ
facet_of corners begins f = take (sides begins f) (drop (begin begins f) corners)

-- corner p of facet f
abbrev pub corner_of : List ℕ → List ℕ → ℕ → ℕ → ℕ
corner_of corners begins f p = get_or (facet_of corners begins f) p 0

-- the position after p in a circuit of n, "the last one wrapping to position 0"
abbrev pub next_position : ℕ → ℕ → ℕ
next_position n p = cond (eqb (p + 1) n) 0 (p + 1)

-- ---- places of the run: a facet's position p is place `begin + p`

-- the facet of a place: the first that ends after it
unfoldable pub home_of : List ℕ → ℕ → ℕ
home_of begins p = first_below (λ f. ltb p (end begins f)) (facets begins)

-- the next place in the same facet, wrapping likewise
abbrev pub next_in : List ℕ → ℕ → ℕ → ℕ
next_in begins f p = cond (eqb (p + 1) (end begins f)) (begin begins f) (p + 1)

unfoldable pub next_of : List ℕ → ℕ → ℕ
next_of begins p = next_in begins (home_of begins p) p

-- the directed edge at a place: "from corner p to the next corner"
abbrev pub from : List ℕ → ℕ → ℕ
from corners p = get_or corners p 0

abbrev pub to : List ℕ → List ℕ → ℕ → ℕ
to corners begins p = get_or corners (next_of begins p) 0

-- a number read in more bits
pub record Widened (x r : ℕ) : Type 0 where
  pub is : r ≡ x
  pub small : r < 65536
