-- The numbers below k are gathered; at the end all of them are. Assumes nothing.
use Rattle.std.proofs.Common.{ap, [], ◌∷◌, ℕ, arith}
use Rattle.std.proofs.lemmas.List.Edits.{sets}
use Rattle.whole.specs.Joined.{length-listed}
use Rattle.tape.specs.SoFar.{so_far_0, so_far_more}
use Rattle.facets_in.proofs.gather.Goals as goal

pub loop-k-preserved : goal.loop-k-preserved
loop-k-preserved c =
    let k = c.loop-k.k in
    let e = ap (λ (x : ℕ). sets c.loop-k.tray k (x ∷ [])) c.unsigned_at.ensures in
    so_far_more c.loop-k.invariant k (omega arith) e (length-listed _ k) (omega arith)

pub loop-k-init : goal.loop-k-init
loop-k-init c = so_far_0 _
