use Rattle.case_show.specs.Grows.{grows_twice}
use Rattle.case_judge.proofs.judge_case.Goals as goal

pub returns : goal.returns
returns g c = grows_twice c.show_answer.ensures c.show_text.ensures
