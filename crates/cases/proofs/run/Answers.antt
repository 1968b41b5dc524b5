use Rattle.case_show.specs.Grows.{grows_twice}
use Rattle.cases.proofs.run.Goals as goal

pub returns-in_err-case : goal.returns-in_err-case
returns-in_err-case g c = grows_twice c.loop.invariant c.case.ensures.grows

pub loop-preserved : goal.loop-preserved
loop-preserved g c = grows_twice c.loop.invariant c.case.ensures.grows
