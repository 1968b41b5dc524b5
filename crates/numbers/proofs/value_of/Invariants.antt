-- `numbers::value_of` meets its contract. The loop's invariant: the digits that are left, after the value so far, make the value. Assumes nothing.
use Rattle.std.proofs.Common.{◌≡◌, ◌≤◌, min, drop}
use Rattle.numbers.specs.Number.{decimal}
use Rattle.numbers.specs.Reading.{most}
use Rattle.numbers.proofs.value_of.Given as goal

abbrev pub invariant-loop-b : goal.invariant-loop-b
invariant-loop-b l = (l.n ≤ most) × (min (decimal l.n (drop l.b-index l.s)) most ≡ min (decimal 0 l.s) most)
