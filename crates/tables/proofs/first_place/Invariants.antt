-- `tables::first_place` meets its contract: whatever the closure finds, the facets before f have none. Assumes nothing.
use Rattle.std.proofs.Common.{ℕ, Bool}
use Rattle.tables.specs.Found.{Free, Finds}
use Rattle.tables.proofs.first_place.Given as goal

abbrev pub invariant-loop-f : goal.invariant-loop-f
invariant-loop-f g l = (sizes : ℕ → ℕ) (test : ℕ → ℕ → Bool) → Finds (goal.F-post g l.find) l.n sizes test → Free l.n sizes test l.f
