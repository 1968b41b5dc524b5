-- `climb::Standing::step` meets its contract. Assumes nothing.
use Rattle.std.proofs.Common.{◌∙◌, sym, arith}
use Rattle.climb.specs.Stepped.{best_moves, best_stays}
use Rattle.climb.proofs.Standing.step.Goals as goal

pub returns-then-is_above : goal.returns-then-is_above
returns-then-is_above c =
    (best_moves _ _ _ _ c.requires.placed c.highest-best.ensures (sym c.is_above.ensures ∙ c.if-is_above.true), omega arith)

pub returns-else-is_above : goal.returns-else-is_above
returns-else-is_above c =
    sym (best_stays _ _ _ _ c.requires.placed c.highest-best.ensures (sym c.is_above.ensures ∙ c.if-is_above.false))
