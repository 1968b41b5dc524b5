-- What a reader leaves in a lent table. Assumes nothing.
use Rattle.std.specs.Prelude.{List, ℕ, Ok, Err}
use Rattle.whole.specs.Over.{over}
use Rattle.reading.specs.Answer.{Reading}

-- "It fills lent tables only when it accepts, and entries beyond the need keep their values": the list that it writes goes by V, F and corners
abbrev pub filled_by : {A : Type 0} → (ℕ → ℕ → ℕ → List A) → List A → Reading → List A
filled_by written old (Ok read) = over (written read.vertices read.facets read.corners) old
filled_by written old (Err refused) = old
