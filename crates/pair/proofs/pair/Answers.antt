-- `pair::pair` meets its contract: where every place is answered, PAIR applies nowhere. Assumes nothing.
use Rattle.std.proofs.Common.{sym, ◌∙◌}
use Rattle.pair.specs.Answered.{all_answered}
use Rattle.pair.proofs.pair.Goals as goal

pub returns-else-some_unanswered : goal.returns-else-some_unanswered
returns-else-some_unanswered c = sym (all_answered (sym c.some_unanswered.ensures ∙ c.if-some_unanswered.false) c.requires.tables.laid)
