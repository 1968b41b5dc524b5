-- The record of the first fault is the answer. Assumes nothing.
use Rattle.std.proofs.Common.{sym, ap, ◌∙◌, arith}
use Rattle.answers.specs.Answer.{answer_of, answer-number}
use Rattle.answers.specs.Order.{passes_beginning}
use Rattle.judge.specs.Judge.{judged}
use Rattle.stages.specs.Rules.{rules_to_turn}
use Rattle.stages.specs.Known.{measured-after}
use Rattle.judge.proofs.judge_with_index.Goals as goal

pub of-requires : goal.of-requires
of-requires c e =
    let a = c.args in
    let passes = passes_beginning _ (rules_to_turn a.points.now a.corners.now a.begins.now) (sym c.first_fault-outcome.ensures.first ∙ e) in
    omega (arith, (measured-after a.points.now a.corners.now a.begins.now passes).sound.laid.some)

pub returns : goal.returns
unfolding judged
returns c =
    let a = c.args in
    let number = ap (λ r. r.number) c.of.ensures ∙ answer-number a.points.now a.corners.now a.begins.now c.first_fault-outcome.result in
    record {
      answer = c.of.ensures ∙ ap (answer_of a.points.now a.corners.now a.begins.now) c.first_fault-outcome.ensures.first;
      index = rw number c.first_fault-outcome.ensures.index;
    }
