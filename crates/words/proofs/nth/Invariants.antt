-- `words::nth` meets its contract. The loop's invariant: word number i has been found. Assumes nothing.
use Rattle.std.proofs.Common.{◌≡◌}
use Rattle.words.specs.Runs.{among}
use Rattle.words.specs.Scan.{nth_of}
use Rattle.words.proofs.nth.Given as goal

abbrev pub invariant-loop : goal.invariant-loop
invariant-loop l = l.at ≡ nth_of (among l.set) l.text l.counter
