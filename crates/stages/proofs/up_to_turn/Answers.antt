-- `stages::up_to_turn` meets its contract: where PAIR passes, the index has for each edge the one across. Assumes nothing.
use Rattle.stages.specs.Known.{crossed}
use Rattle.stages.proofs.up_to_turn.Goals as goal

pub ring-requires-clause-crossed : goal.ring-requires-clause-crossed
ring-requires-clause-crossed c = crossed c.build.ensures c.pair.ensures c.pass-3.ensures c.in_ok-pass-3.was

pub apart-requires : goal.apart-requires
apart-requires c = let paired = c.in_ok-pass-3.was in crossed c.build.ensures c.pair.ensures c.pass-3.ensures paired
