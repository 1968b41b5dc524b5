-- `sides::normal` meets its contract. Assumes nothing.
use Rattle.space.specs.Vectors.{◌-ᵛ◌}
use Rattle.points.specs.Points.{difference_of}
use Rattle.sides.proofs.normal.Goals as goal

pub returns : goal.returns
unfolding difference_of ◌-ᵛ◌
returns c =
    let p = c.row.ensures in
    let q = c.row-2.ensures in
    let h = c.cross.ensures in
    record { is = rw (h.exact.is, p.is, q.is); small = h.small p.small }
