-- `judge::first_fault` meets its contract: what the passed rules give the next. Assumes nothing.
use Rattle.judge.specs.Stages.{foldable, scannable}
use Rattle.judge.proofs.first_fault.Goals as goal

pub reflex-reflex-requires : goal.reflex-reflex-requires
reflex-reflex-requires c = foldable c.up_to_turn.ensures.first c.up_to_turn.ensures.index c.in_ok-up_to_turn.was

pub outside-outside-requires : goal.outside-outside-requires
outside-outside-requires c =
    scannable c.up_to_turn.ensures.first c.up_to_turn.ensures.index c.in_ok-up_to_turn.was c.reflex-reflex.ensures c.pass.ensures c.in_ok-pass.was
