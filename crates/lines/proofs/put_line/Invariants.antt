-- The loop's invariant: what is left, stored from `end` on, makes the line. Assumes nothing.
use Rattle.lines.specs.Line.{Storing}
use Rattle.lines.proofs.put_line.Given as goal

abbrev pub invariant-loop-i : goal.invariant-loop-i
invariant-loop-i l = Storing l.numbers l.initial.buf l.at l.buf l.end l.i
