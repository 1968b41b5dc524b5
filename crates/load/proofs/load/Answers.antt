-- A tape that is read has no more vertices, facets and corners than the tables have room for. Assumes nothing.
use Rattle.std.proofs.Common.{sym, ◌∙◌, arith}
use Rattle.whole.specs.Begin.{is_begin}
use Rattle.tape.specs.Whole.{read_whole}
use Rattle.reader.specs.Room.{read-accepted}
use Rattle.load.proofs.load.Goals as goal

pub overflow_mul-result : goal.overflow_mul-result
overflow_mul-result c =
    let a = c.args in
    let points = read-accepted a.tape.now a.points.now a.corners.now a.begins.now (sym c.read_tape.ensures.answer ∙ c.in_ok-read.was) in
    omega (arith, (read_whole points).records.few)

pub overflow_add-result : goal.overflow_add-result
overflow_add-result c =
    let a = c.args in
    let begins = read-accepted a.tape.now a.points.now a.corners.now a.begins.now (sym c.read_tape.ensures.answer ∙ c.in_ok-read.was) in
    omega (arith, (read_whole begins).records.facets.few)

pub returns-clause-entries : goal.returns-clause-entries
returns-clause-entries c =
    let a = c.args in
    let read = read-accepted a.tape.now a.points.now a.corners.now a.begins.now (sym c.read_tape.ensures.answer ∙ c.in_ok-read.was) in
    let w = read_whole read in
    record {
      points = is_begin _ _ (omega (arith, w.records.few));
      corners = is_begin _ _ (omega (arith, w.corners, w.records.facets.short));
      begins = is_begin _ _ (omega (arith, w.records.facets.few));
    }
