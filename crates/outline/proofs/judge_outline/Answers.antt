-- `outline::judge_outline` meets its contract: where FEW and RANGE don't apply, every coordinate is within its limits. Assumes nothing.
use Rattle.std.proofs.Common.{sym, ◌∙◌}
use Rattle.whole.specs.First.{found-nowhere}
use Rattle.once_round.specs.Words.{count, out_of_range}
use Rattle.once_round.specs.Limits.{counted, in_range}
use Rattle.outline.specs.Outline.{judged_outline, refused_at, passed}
use Rattle.outline.proofs.judge_outline.Goals as goal

pub returns-then-is_few : goal.returns-then-is_few
unfolding judged_outline
returns-then-is_few c = rw (← c.is_few.ensures, c.if-is_few.true) c.refused.ensures

pub returns-in-Some : goal.returns-in-Some
unfolding judged_outline
returns-in-Some c =
    let points = c.args.points.now in
    rw (← c.is_few.ensures, c.if-is_few.false)
    (c.refused-in-Some.ensures ∙ refused_at 2 (out_of_range points) (count points) _ c.in-Some.ensures)

pub judge_turns-requires : goal.judge_turns-requires
judge_turns-requires c =
    let points = c.args.points.now in
    in_range points (counted points (sym c.is_few.ensures ∙ c.if-is_few.false))
    (found-nowhere (out_of_range points) (count points) (sym c.in_default.ensures))

pub returns : goal.returns
unfolding judged_outline
returns c =
    let points = c.args.points.now in
    rw (← c.is_few.ensures, c.if-is_few.false)
    (c.judge_turns.ensures ∙ passed 2 (out_of_range points) (count points) _ c.in_default.ensures)
