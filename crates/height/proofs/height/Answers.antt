-- `height::height` meets its contract. Assumes nothing.
use Rattle.std.proofs.Common.{◌∙◌, w32, w64}
use Rattle.whole.specs.Machine.{read_is, read_small, read-exact, exact_read}
use Rattle.space.specs.Rows.{row_of}
use Rattle.height.proofs.height.Goals as goal

pub dot-requires : goal.dot-requires
dot-requires c = record {
  normal = row_of (read_small w64 c.wide_part.ensures tt tt) (read_small w64 c.wide_part-2.ensures tt tt) (read_small w64 c.wide_part-3.ensures tt tt);
  difference = row_of (read_small w64 c.wide_coord.ensures tt tt) (read_small w64 c.wide_coord-2.ensures tt tt) (read_small w64 c.wide_coord-3.ensures tt tt);
}

pub returns : goal.returns
returns c =
    let (_, _, p) = c.requires in
    let e = exact_read w64 c.dot.ensures tt in
    record {
      is = e.is ∙ rw (
        read-exact w64 c.wide_part.ensures tt,
        read_is w32 p.x tt,
        read-exact w64 c.wide_part-2.ensures tt,
        read_is w32 p.y tt,
        read-exact w64 c.wide_part-3.ensures tt,
        read_is w32 p.z tt,
        read-exact w64 c.wide_coord.ensures tt,
        read-exact w64 c.wide_coord-2.ensures tt,
        read-exact w64 c.wide_coord-3.ensures tt,
      );
      small = e.small;
    }
