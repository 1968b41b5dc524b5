-- A reader's answer as the rule sheet says it: a number and three values. Assumes nothing.
use Rattle.std.specs.Prelude.{ℕ, Result, Ok, Err}
use Rattle.reading.specs.declared.Counts.{Counts}
use Rattle.reading.specs.declared.Refused.{Refused}

-- "It returns V, F and corners, or a number and byte offset"
abbrev pub Reading : Type 0
Reading = Result Counts Refused

abbrev pub counted : ℕ → ℕ → ℕ → Counts
counted v f c = record { vertices = v; facets = f; corners = c }

abbrev pub refused_at : ℕ → ℕ → Refused
refused_at number offset = record { number = number; offset = offset }

abbrev pub answer_number : Reading → ℕ
answer_number (Ok read) = 0
answer_number (Err refused) = refused.number

abbrev pub first_value : Reading → ℕ
first_value (Ok read) = read.vertices
first_value (Err refused) = refused.offset

abbrev pub second_value : Reading → ℕ
second_value (Ok read) = read.facets
second_value (Err refused) = 0

abbrev pub third_value : Reading → ℕ
third_value (Ok read) = read.corners
third_value (Err refused) = 0
