use Rattle.case_show.specs.Grows.{grows_twice}
use Rattle.case_judge.proofs.outline_case.Goals as goal

pub returns-clause-grows : goal.returns-clause-grows
returns-clause-grows g c = grows_twice c.show_answer.ensures c.show_text.ensures
