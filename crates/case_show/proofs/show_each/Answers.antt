use Rattle.case_show.specs.Grows.{grows_twice}
use Rattle.case_show.proofs.show_each.Goals as goal

pub returns-in_err-show : goal.returns-in_err-show
returns-in_err-show g c = grows_twice c.loop-number.invariant c.show.ensures

pub loop-number-preserved : goal.loop-number-preserved
loop-number-preserved g c = grows_twice c.loop-number.invariant c.show.ensures
