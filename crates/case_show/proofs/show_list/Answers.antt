use Rattle.case_show.specs.Grows.{grows_twice}
use Rattle.case_show.proofs.show_list.Goals as goal

pub returns : goal.returns
returns g c = grows_twice c.show_text.ensures c.show_each.ensures
