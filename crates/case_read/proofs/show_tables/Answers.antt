use Rattle.case_show.specs.Grows.{grows_twice}
use Rattle.case_read.proofs.show_tables.Goals as goal

pub returns-in_err-show_table-2-clause-grows : goal.returns-in_err-show_table-2-clause-grows
returns-in_err-show_table-2-clause-grows g c = grows_twice c.show_table.ensures.grows c.show_table-2.ensures.grows

pub returns-in_err-show_table-3-clause-grows : goal.returns-in_err-show_table-3-clause-grows
returns-in_err-show_table-3-clause-grows g c =
    grows_twice (grows_twice c.show_table.ensures.grows c.show_table-2.ensures.grows) c.show_table-3.ensures.grows

pub returns-clause-grows : goal.returns-clause-grows
returns-clause-grows g c =
    grows_twice (grows_twice (grows_twice c.show_table.ensures.grows c.show_table-2.ensures.grows) c.show_table-3.ensures.grows) c.show_text.ensures
