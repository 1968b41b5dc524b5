-- `numbers::value_of` meets its contract. The loop's invariant: the digits that are left, after the value so far, make the value. Assumes nothing.
use Rattle.std.proofs.Common.{rules, arith, ◌∙◌, ◌+◌, ◌-◌, ◌*◌, get_or, drop}
use Rattle.words.specs.Runs.{each_at, drop-next, drop-end}
use Rattle.numbers.specs.Number.{is_digit, digit-range, decimal}
use Rattle.numbers.specs.Reading.{kept-decimal}
use Rattle.numbers.proofs.value_of.Goals as goal

pub more-n-requires : goal.more-n-requires
more-n-requires c =
    let s = c.args.s.now in
    let i = c.loop-b.b-index in
    (search rules, (digit-range (get_or s i 0) (each_at is_digit s i c.requires (search rules))).0)

pub loop-b-preserved : goal.loop-b-preserved
unfolding decimal
loop-b-preserved c =
    let s = c.args.s.now in
    let i = c.loop-b.b-index in
    let k = kept-decimal (c.loop-b.n * 10 + (get_or s i 0 - 48)) (drop (i + 1) s) in
    let e = rw (drop-next s i 0 (search rules)) at c.loop-b.invariant.1 in
    (rw c.more-n.ensures (omega arith), rw c.more-n.ensures (k ∙ e))

pub returns : goal.returns
unfolding decimal
returns c =
    let s = c.args.s.now in
    let e = rw (drop-end s c.loop-b.b-index (search rules)) at c.loop-b.invariant.1 in
    omega arith
