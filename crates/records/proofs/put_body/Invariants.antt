-- `records::put_body` meets its contract. Assumes nothing.
use Rattle.records.specs.Records.{BodySoFar}
use Rattle.records.proofs.put_body.Given as goal

abbrev pub invariant-loop-k : goal.invariant-loop-k
invariant-loop-k l = BodySoFar l.numbers l.initial.rest l.rest l.k
