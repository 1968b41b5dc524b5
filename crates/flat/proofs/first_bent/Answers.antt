-- `flat::first_bent` meets its contract: the law of searches, over the later corners. Assumes nothing.
use Rattle.std.proofs.Common.{rules, sym, ◌∙◌}
use Rattle.whole.specs.Searches.{found_from}
use Rattle.flat.specs.Rules.{is_bent, bent-later, in_line-at, not_in_line}
use Rattle.flat.proofs.first_bent.Goals as goal

pub returns-then-in_line : goal.returns-then-in_line
returns-then-in_line c = in_line-at _ _ c.requires.some (sym c.in_line.ensures ∙ c.if-in_line.true)

pub returns : goal.returns
returns c =
    found_from _ c.find.result (is_bent c.args.points.now c.args.part.now) c.find.ensures.ran
    (not_in_line _ _ c.requires.some (sym c.in_line.ensures ∙ c.if-in_line.false)) (λ x b q k. search rules)
    (λ x b q k l m. rw (bent-later _ _ l) (search rules))
