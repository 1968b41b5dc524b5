-- Number 6, PAIR: "a directed edge occurs more than once, or its reverse doesn't occur exactly once". Assumes nothing.
use Rattle.std.specs.Prelude.{◌≡◌, Bool, false, not, ◌||◌, List, ℕ, ◌<◌, eqb, ltb, length, None}
use Rattle.whole.specs.Count.{count_below}
use Rattle.tables.specs.Tables.{from, to}
use Rattle.tables.specs.Size.{Laid}
use Rattle.tables.specs.Search.{Search, place_of}
use Rattle.pair.specs.Flat.{by_facets, flat_none, none_flat}
use Rattle.edges.specs.Edge.{is_edge}

-- how often the directed edge from a to b occurs
abbrev pub times : List ℕ → List ℕ → ℕ → ℕ → ℕ
times corners begins a b = count_below (is_edge corners begins a b) (length corners)

-- the directed edge at place p occurs more than once, or its reverse doesn't occur exactly once
abbrev pub unpaired : List ℕ → List ℕ → ℕ → Bool
unpaired corners begins p =
    ltb 1 (times corners begins (from corners p) (to corners begins p)) || not (eqb (times corners begins (to corners begins p) (from corners p)) 1)

abbrev pub pair : List ℕ → List ℕ → Search
pair corners begins = by_facets begins (unpaired corners begins)

-- ---- PAIR applies nowhere

pub record Paired (corners begins : List ℕ) : Type 0 where
  pub paired : (p : ℕ) → p < length corners → unpaired corners begins p ≡ false

pub pair-none : {corners begins : List ℕ} → Laid corners begins → place_of (pair corners begins) ≡ None → Paired corners begins
pair-none {corners} {begins} L e = record { paired = none_flat L (unpaired corners begins) e }

pub paired_none : {corners begins : List ℕ} → Laid corners begins → Paired corners begins → place_of (pair corners begins) ≡ None
paired_none {corners} {begins} L P = flat_none L (unpaired corners begins) P.paired
