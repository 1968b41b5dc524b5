-- Something may have been written.
use Rattle.case_show.specs.Grows.{Grows}
use Rattle.cases.proofs.run.Given as goal

abbrev pub invariant-loop : goal.invariant-loop
invariant-loop g l = Grows (g.W.Write.contents l.fn.writer) (g.W.Write.contents l.writer)
