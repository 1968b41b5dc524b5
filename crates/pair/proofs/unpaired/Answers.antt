-- `pair::unpaired` meets its contract. Assumes nothing.
use Rattle.edges.specs.Index.{to-small, end_is}
use Rattle.pair.proofs.unpaired.Goals as goal

pub times-requires-else-times-gt1-clause-vertex : goal.times-requires-else-times-gt1-clause-vertex
times-requires-else-times-gt1-clause-vertex c =
    rw (c.end-b.ensures, end_is c.requires.indexed c.requires.place) (to-small c.requires.indexed.tables c.requires.place)
