-- Something may have been written.
use Rattle.case_show.specs.Grows.{Grows}
use Rattle.case_show.proofs.show_each.Given as goal

abbrev pub invariant-loop-number : goal.invariant-loop-number
invariant-loop-number g l = Grows (g.W.Write.contents l.fn.writer) (g.W.Write.contents l.writer)
