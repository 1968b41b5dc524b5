-- What is left, stored from `end` on, makes the line. Assumes nothing.
use Rattle.std.proofs.Common.{rules, ◌≡◌, ◌+◌, ◌-◌, arith, pos, length, get_or, to_z-of_z, SFits, w64}
use Rattle.lines.specs.Line.{storing_more}
use Rattle.lines.proofs.put_line.Goals as goal

pub loop-i-preserved : goal.loop-i-preserved
loop-i-preserved c =
    let zs = c.args.numbers.now in
    let i = c.loop-i.i in
    let f : SFits w64 (get_or zs i (pos 0)) = record { sfits = search rules } in
    let s = rw (to_z-of_z f) at c.put_number-end.ensures in
    let others : length zs - 1 - i ≡ length zs - (i + 1) = omega arith in
    rw (c.after.ensures, others) (storing_more c.loop-i.invariant (search rules) s)
