use Rattle.case_show.specs.Grows.{grows_twice}
use Rattle.case_facet.proofs.facet_case.Goals as goal

pub returns-in_err-show_list-clause-grows : goal.returns-in_err-show_list-clause-grows
returns-in_err-show_list-clause-grows g c = grows_twice c.show_answer.ensures c.show_list.ensures

pub returns-clause-grows : goal.returns-clause-grows
returns-clause-grows g c = grows_twice (grows_twice c.show_answer.ensures c.show_list.ensures) c.show_text.ensures
