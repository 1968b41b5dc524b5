-- `lines::line4` meets its contract. Assumes nothing.
use Rattle.std.proofs.Common.{rules, ◌≤◌, length, List, ℤ, arith, to_z-of_z}
use Rattle.lines.specs.Line.{line_of, room, Each64, few-line}
use Rattle.lines.proofs.line4.Goals as goal

short : (zs : List ℤ) → Each64 zs → length zs ≤ 4 → length (line_of zs) ≤ room
short zs h few = omega (arith, few-line zs h)

pub line_of-requires : goal.line_of-requires
line_of-requires c =
    let f = c.ranges in
    rw (to_z-of_z f.a, to_z-of_z f.b, to_z-of_z f.c, to_z-of_z f.d) (short _ (search rules) (omega arith))

pub returns : goal.returns
returns c =
    let f = c.ranges in
    (rw (to_z-of_z f.a, to_z-of_z f.b, to_z-of_z f.c, to_z-of_z f.d) at c.line_of.ensures, short _ (search rules) (omega arith))
