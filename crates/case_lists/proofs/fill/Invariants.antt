-- The text stays.
use Rattle.std.proofs.Common.{◌≡◌}
use Rattle.case_lists.proofs.fill.Given as goal

abbrev pub invariant-loop-x : goal.invariant-loop-x
invariant-loop-x g l = l.text.bytes ≡ l.fn.text.bytes
