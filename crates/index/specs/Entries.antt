-- The entries of the index: an edge for each place of the run, and a link for each vertex. Assumes nothing.
use Rattle.std.specs.Prelude.{List, ℕ, get_or}
use Rattle.tables.specs.Tables.{most_vertices, most_corners}
use Rattle.whole.specs.Filled.{Blank}
use Rattle.index.specs.declared.Edge.{Edge}

-- the edge at a place: its facet, where it ends, the place across, the link to the place before it in its chain
abbrev pub row : ℕ → ℕ → ℕ → ℕ → Edge
row home end across back = record { home = home; end = end; across = across; back = back }

abbrev pub blank_row : Edge
blank_row = row 0 0 0 0

abbrev pub home_at : List Edge → ℕ → ℕ
home_at edges p = (get_or edges p blank_row).home

abbrev pub end_at : List Edge → ℕ → ℕ
end_at edges p = (get_or edges p blank_row).end

abbrev pub across_at : List Edge → ℕ → ℕ
across_at edges p = (get_or edges p blank_row).across

abbrev pub back_at : List Edge → ℕ → ℕ
back_at edges p = (get_or edges p blank_row).back

abbrev pub head_at : List ℕ → ℕ → ℕ
head_at heads v = get_or heads v 0

-- the tables as they are lent to be filled
pub record Fresh (edges : List Edge) (heads : List ℕ) : Type 0 where
  pub rows : Blank blank_row most_corners edges
  pub links : Blank 0 most_vertices heads
