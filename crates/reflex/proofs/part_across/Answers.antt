-- `reflex::part_across` meets its contract. Assumes nothing.
use Rattle.std.proofs.Common.{arith}
use Rattle.edges.specs.Index.{across_at-below, home_at-in}
use Rattle.pair.specs.Across.{across_small, facet_across_lem}
use Rattle.reflex.proofs.part_across.Goals as goal

pub home-requires : goal.home-requires
home-requires c = rw c.across.ensures (across_small c.requires.crossed c.requires.place)

pub part-requires : goal.part-requires
part-requires c =
    let i = c.requires.crossed.indexed in
    (i.tables.laid, rw (c.home.ensures, c.across.ensures) (omega (arith, (home_at-in i (across_at-below i c.requires.place)).facet)))

pub returns : goal.returns
returns c = rw (c.part.ensures.is, c.home.ensures, c.across.ensures, facet_across_lem c.requires.crossed c.requires.place)
