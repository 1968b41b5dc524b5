-- Each number of the line is read back. Assumes nothing.
use Rattle.lines.specs.Line.{number_read}
use Rattle.answer_lines.specs.Lines.{places_of, printed}
use Rattle.answer_lines.proofs.places.Goals as goal

pub returns : goal.returns
returns c =
    let e = number_read _ c.number_of-4.ensures in
    let f = number_read _ c.number_of-3.ensures in
    let g = number_read _ c.number_of-2.ensures in
    let h = number_read _ c.number_of.ensures in
    let (line, prints) = printed (places_of c.args.a) (rw (e, f, g, h, c.from.ensures) at c.line4.ensures) in
    record { line = line; prints = prints }
