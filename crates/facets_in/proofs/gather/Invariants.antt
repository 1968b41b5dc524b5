-- `facets_in::gather` meets its contract. Assumes nothing.
use Rattle.std.proofs.Common.{[], ◌∷◌, ◌+◌, ◌*◌}
use Rattle.tape.specs.Little.{unsigned_at}
use Rattle.tape.specs.SoFar.{SoFar}
use Rattle.facets_in.proofs.gather.Given as goal

abbrev pub invariant-loop-k : goal.invariant-loop-k
invariant-loop-k l = SoFar (λ k'. unsigned_at l.tape (l.i + 2 * k') ∷ []) l.n l.initial.tray l.tray l.k
