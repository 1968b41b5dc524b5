-- `walk::walk` meets its contract. Assumes nothing.
use Rattle.std.proofs.Common.{sym, ap, ◌∙◌, arith}
use Rattle.accepts.specs.Meaning.{is_measured}
use Rattle.direction.specs.Direction.{permitted, wrong_exactly}
use Rattle.walk.specs.Walk.{halted}
use Rattle.walk.specs.Meaning.{JUDGED, START, DIRECTION, TRAIL, walk-end_is, granted_climbs, climbed_end}
use Rattle.walk.proofs.walk.Goals as goal

pub returns-then-answer-ne0 : goal.returns-then-answer-ne0
returns-then-answer-ne0 c =
    let judged = c.judge_with_index-answer.ensures in
    let (r, t) = walk-end_is _ _ _ _ _ _ (JUDGED (rw judged.answer at c.if-answer-ne0.true)) in
    record { answer = c.halted.ensures ∙ ap halted judged.answer ∙ r; trail = t }

pub returns-then-vertices-start : goal.returns-then-vertices-start
returns-then-vertices-start c =
    let judged = c.judge_with_index-answer.ensures in
    let (r, t) = walk-end_is _ _ _ _ _ _ (START (rw judged.answer at c.if-answer-ne0.false) c.if-vertices-start.true) in
    record { answer = rw c.number.ensures at c.refused.ensures ∙ r; trail = t }

pub returns-then-is_wrong : goal.returns-then-is_wrong
returns-then-is_wrong c =
    let judged = c.judge_with_index-answer.ensures in
    let wrong = (wrong_exactly _).0 (sym c.is_wrong.ensures ∙ c.if-is_wrong.true) in
    let (r, t) = walk-end_is _ _ _ _ _ _ (DIRECTION (rw judged.answer at c.if-answer-ne0.false) c.if-vertices-start.false wrong) in
    record { answer = rw c.number-then-is_wrong.ensures at c.refused-then-is_wrong.ensures ∙ r; trail = t }

pub returns-then-trail-vertices : goal.returns-then-trail-vertices
returns-then-trail-vertices c =
    let judged = c.judge_with_index-answer.ensures in
    let right = permitted _ (sym c.is_wrong.ensures ∙ c.if-is_wrong.false) in
    let (r, t) = walk-end_is _ _ _ _ _ _ (TRAIL (rw judged.answer at c.if-answer-ne0.false) c.if-vertices-start.false right c.if-trail-vertices.true) in
    record { answer = rw c.number-then-trail-vertices.ensures at c.refused-then-trail-vertices.ensures ∙ r; trail = t }

pub begin-begin-requires : goal.begin-begin-requires
begin-begin-requires c =
    let judged = c.judge_with_index-answer.ensures in
    let right = permitted _ (sym c.is_wrong.ensures ∙ c.if-is_wrong.false) in
    ((is_measured _ _ _ (rw judged.answer at c.if-answer-ne0.false)).ranged, c.if-vertices-start.false, right)

pub overflow_cast-start : goal.overflow_cast-start
overflow_cast-start c =
    let judged = c.judge_with_index-answer.ensures in
    omega (arith, c.if-vertices-start.false, (is_measured _ _ _ (rw judged.answer at c.if-answer-ne0.false)).sound.named.few)

pub climb-requires : goal.climb-requires
climb-requires c =
    let judged = c.judge_with_index-answer.ensures in
    let right = permitted _ (sym c.is_wrong.ensures ∙ c.if-is_wrong.false) in
    granted_climbs _ _ _ _ _ _
    (record { accepted = rw judged.answer at c.if-answer-ne0.false; permitted = right; corner = c.if-vertices-start.false; room = c.if-trail-vertices.false })
    c.begin-begin.ensures (rw c.if-answer-ne0.false at judged.index)

pub returns : goal.returns
returns c =
    let judged = c.judge_with_index-answer.ensures in
    let right = permitted _ (sym c.is_wrong.ensures ∙ c.if-is_wrong.false) in
    let (r, t) = climbed_end _ _ _ _ _ _
    (record { accepted = rw judged.answer at c.if-answer-ne0.false; permitted = right; corner = c.if-vertices-start.false; room = c.if-trail-vertices.false })
    c.begin-begin.ensures c.arrived.ensures c.climb.ensures
    in
    record { answer = r; trail = t }
