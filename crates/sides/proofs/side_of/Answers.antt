-- `sides::side_of` meets its contract. Assumes nothing.
use Rattle.std.proofs.Common.{to_z-of_z}
use borrow.Author.Rules.{sfits_of}
use Rattle.space.specs.Vectors.{◌-ᵛ◌}
use Rattle.points.specs.Points.{difference_of}
use Rattle.sides.proofs.side_of.Goals as goal

pub returns : goal.returns
unfolding difference_of ◌-ᵛ◌
returns c =
    let d = c.determinant in
    rw (
      c.sign.ensures,
      to_z-of_z (sfits_of d.type_inv),
      d.ensures,
      c.row.ensures.is,
      c.row-2.ensures.is,
      c.row-3.ensures.is,
    )
