-- `notes::note_walked` meets its contract. Assumes nothing.
use Rattle.std.proofs.Common.{refl, to_z-of_z}
use Rattle.lines.specs.Line.{number_read}
use Rattle.notes.proofs.note_walked.Goals as goal

pub returns : goal.returns
returns c =
    record {
      number_is = refl;
      out_is = rw (
        c.note.ensures,
        number_read _ c.number_of.ensures,
        number_read _ c.number_of-2.ensures,
        number_read _ c.number_of-3.ensures,
        number_read _ c.number_of-4.ensures,
        c.wide.ensures.is,
        number_read _ c.number_of-5.ensures,
        to_z-of_z (record { sfits = c.struct_told-1.given.1.1.0.1 }),
      );
    }

pub number_of-requires : goal.number_of-requires
number_of-requires c = tt

pub number_of-requires-2 : goal.number_of-requires-2
number_of-requires-2 c = tt

pub number_of-requires-3 : goal.number_of-requires-3
number_of-requires-3 c = tt

pub wide-requires : goal.wide-requires
wide-requires c = tt

pub number_of-requires-4 : goal.number_of-requires-4
number_of-requires-4 c = tt

pub number_of-requires-5 : goal.number_of-requires-5
number_of-requires-5 c = tt

pub note-requires : goal.note-requires
note-requires c = tt
