-- `ring::round` meets its contract. Assumes nothing.
use Rattle.std.proofs.Common.{◌∙◌}
use Rattle.edges.specs.Index.{across_at-below, home_at-in}
use Rattle.pair.specs.Across.{across_small}
use Rattle.ring.specs.Step.{step-entry}
use Rattle.ring.proofs.round.Goals as goal

pub home-requires : goal.home-requires
home-requires c = rw c.across-q.ensures (across_small c.requires.crossed c.requires.place)

pub next_in-requires : goal.next_in-requires
next_in-requires c =
    rw (c.home.ensures, c.across-q.ensures) (home_at-in c.requires.crossed.indexed (across_at-below c.requires.crossed.indexed c.requires.place))

pub returns : goal.returns
returns c =
    c.next_in.ensures ∙ step-entry c.requires.crossed c.requires.place c.across-q.ensures c.home.ensures
