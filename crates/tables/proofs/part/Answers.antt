-- `tables::part` meets its contract. Assumes nothing.
use Rattle.std.proofs.Common.{arith}
use Rattle.tables.specs.Places.{end-in_run}
use Rattle.tables.proofs.part.Goals as goal

pub slice_bounds-result-count : goal.slice_bounds-result-count
slice_bounds-result-count c =
    let (laid, below) = c.requires in
    omega (arith, laid.rise c.args.f (omega (arith, laid.some)), c.wide-begin.ensures.is, c.wide-end.ensures.is)

pub slice_bounds-result-start : goal.slice_bounds-result-start
slice_bounds-result-start c =
    let (laid, below) = c.requires in
    omega (arith, laid.rise c.args.f (omega (arith, laid.some)), end-in_run laid below, c.wide-begin.ensures.is)

pub slice_bounds-result-end : goal.slice_bounds-result-end
slice_bounds-result-end c =
    let (laid, below) = c.requires in
    omega (arith, end-in_run laid below, c.wide-end.ensures.is)

pub returns : goal.returns
returns c =
    let end = c.wide-end.ensures.is in
    let begin = c.wide-begin.ensures.is in
    record { at = rw begin; is = rw (end, begin) }

pub offset_bounds-corners-begin : goal.offset_bounds-corners-begin
offset_bounds-corners-begin c = omega arith
