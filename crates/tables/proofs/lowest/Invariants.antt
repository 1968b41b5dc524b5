-- `tables::lowest` meets its contract: whatever the closure tests, it fails before v. Assumes nothing.
use Rattle.std.proofs.Common.{ℕ, Bool}
use Rattle.whole.specs.First.{NoneYet}
use Rattle.tables.specs.Found.{Tests}
use Rattle.tables.proofs.lowest.Given as goal

abbrev pub invariant-loop-v : goal.invariant-loop-v
invariant-loop-v g l = (test : ℕ → Bool) → Tests (goal.F-post g l.applies) l.n test → NoneYet test l.n l.v
