use Rattle.case_show.specs.Grows.{grows_twice}
use Rattle.case_show.proofs.show_answer.Goals as goal

pub returns : goal.returns
returns g c = grows_twice c.show.ensures c.show_each.ensures
