-- A write that is interrupted writes nothing.
use Rattle.std.specs.Io.KnownBytes.{Keeps}
use Rattle.streams.proofs.write_on.Given as goal

abbrev pub invariant-loop : goal.invariant-loop
invariant-loop g l = Keeps (g.W.Write.contents l.initial.writer) (g.W.Write.contents l.writer)
