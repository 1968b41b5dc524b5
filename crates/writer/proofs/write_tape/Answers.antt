-- Refused as the judge refuses, for space, or written. Assumes nothing.
use Rattle.std.proofs.Common.{sym, ◌∙◌, arith}
use Rattle.writer.specs.Owed.{checked, long, faulty_owed, short_owed, written-owed}
use Rattle.writer.proofs.write_tape.Goals as goal

pub returns-in-Err : goal.returns-in-Err
returns-in-Err c =
    let owed = faulty_owed _ _ _ _ c.of.ensures (sym c.check.ensures ∙ c.in-Err.is) in
    record { answer = owed.0; buffer = owed.1 }

-- the tables are in order
pub overflow_sub-long : goal.overflow_sub-long
overflow_sub-long c = (long (checked c.check.ensures c.in_default.is)).some

pub overflow_add-long-2 : goal.overflow_add-long-2
overflow_add-long-2 c = let l = long (checked c.check.ensures c.in_default.is) in omega arith

pub overflow_add-long-3 : goal.overflow_add-long-3
overflow_add-long-3 c = let l = long (checked c.check.ensures c.in_default.is) in omega arith

pub returns-then-buffer-long : goal.returns-then-buffer-long
returns-then-buffer-long c =
    let o = checked c.check.ensures c.in_default.is in
    let l = long o in
    let owed = short_owed _ _ _ c.args.buffer.now o (rw c.number.ensures at c.refused.ensures) (omega arith) in
    record { answer = owed.0; buffer = owed.1 }

pub put_tape-requires : goal.put_tape-requires
put_tape-requires c =
    let o = checked c.check.ensures c.in_default.is in
    let l = long o in
    record { in_order = o; room = omega arith }

pub returns : goal.returns
returns c =
    let o = checked c.check.ensures c.in_default.is in
    let l = long o in
    let owed = written-owed _ _ _ c.args.buffer.now o c.of_length.ensures (omega arith) (omega arith) c.put_tape.ensures in
    record { answer = owed.0; buffer = owed.1 }
