-- `outline::judge_turns` meets its contract. Assumes nothing.
use Rattle.std.proofs.Common.{◌∙◌}
use Rattle.once_round.specs.Words.{count, not_left, wound}
use Rattle.outline.specs.Outline.{judged_turns, refused_at, passed}
use Rattle.outline.proofs.judge_turns.Goals as goal

pub returns-in-Some : goal.returns-in-Some
unfolding judged_turns
returns-in-Some c =
    let points = c.args.points.now in
    c.refused.ensures ∙ refused_at 25 (not_left points) (count points) _ c.in-Some.ensures

pub returns-in-Some-second_far : goal.returns-in-Some-second_far
unfolding judged_turns
returns-in-Some-second_far c =
    let points = c.args.points.now in
    c.refused-in-Some-second_far.ensures ∙ refused_at 26 (wound points) (count points) _ c.in-Some-second_far.ensures
    ∙ passed 25 (not_left points) (count points) _ c.in_default.ensures

pub returns : goal.returns
unfolding judged_turns
returns c =
    let points = c.args.points.now in
    passed 26 (wound points) (count points) _ c.in_default-second_far.ensures
    ∙ passed 25 (not_left points) (count points) _ c.in_default.ensures
