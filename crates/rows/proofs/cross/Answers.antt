-- `rows::cross` meets its contract. Assumes nothing.
use Rattle.std.proofs.Common.{w64}
use Rattle.whole.specs.Machine.{read-within, exact_read}
use Rattle.space.specs.Plane.{det}
use Rattle.space.specs.Rows.{exact-row, row_of}
use Rattle.rows.proofs.cross.Goals as goal

pub returns : goal.returns
unfolding det
returns c =
    let x = c.minor_at.ensures in
    let y = c.minor_at-2.ensures in
    let z = c.minor_at-3.ensures in
    record {
      exact = exact-row (exact_read w64 x.exact tt) (exact_read w64 y.exact tt) (exact_read w64 z.exact tt);
      small = λ h. row_of (read-within w64 (x.small h) tt) (read-within w64 (y.small h) tt) (read-within w64 (z.small h) tt);
    }
