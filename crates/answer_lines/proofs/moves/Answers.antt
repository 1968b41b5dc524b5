-- Each number of the line is read back. Assumes nothing.
use Rattle.std.proofs.Common.{rules, ◌≡◌, w64, to_z, of_z}
use Rattle.lines.specs.Line.{number_read}
use Rattle.answer_lines.specs.Lines.{moves_of, printed}
use Rattle.answer_lines.proofs.moves.Goals as goal

pub returns : goal.returns
returns c =
    let w = c.args.w in
    let same : to_z w64 (of_z w64 w.height) ≡ w.height = search rules in
    let e = number_read _ c.number_of-3.ensures in
    let f = number_read _ c.number_of-2.ensures in
    let g = number_read _ c.number_of.ensures in
    let (line, prints) = printed (moves_of w) (rw (e, f, g, same, c.from.ensures, c.from-2.ensures) at c.line4.ensures) in
    record { line = line; prints = prints }
