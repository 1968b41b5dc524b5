-- `notes::note_verdict` meets its contract. Assumes nothing.
use Rattle.std.proofs.Common.{refl}
use Rattle.lines.specs.Line.{number_read}
use Rattle.notes.proofs.note_verdict.Goals as goal

pub returns : goal.returns
returns c =
    record { number_is = refl; out_is = rw (c.note.ensures, number_read c.args.verdict.place c.number_of.ensures) }
