-- The points' records are written, the facets' after them, and the counts after these. Assumes nothing.
use Rattle.std.proofs.Common.{◌≡◌, ◌∙◌, List, ℕ, ◌+◌, ◌*◌, ◌≤◌, arith, ℤ, length}
use Rattle.points.specs.Points.{vertices}
use Rattle.tables.specs.Tables.{facets}
use Rattle.whole.specs.Over.{Wrote, wrote, over, window, back, handed, length-window}
use Rattle.tape.specs.Records.{point_bytes, facet_bytes, record_bytes, divided, length-packed, length-points, length_all_facets, length-records}
use Rattle.tape.specs.Tape.{ending, tape}
use Rattle.limits.specs.InOrder.{InOrder, laid}
use Rattle.writer.specs.Owed.{long, placed}
use Rattle.writer.proofs.put_tape.Goals as goal

-- the buffer after the points, after the facets, and after the end
module _ (ps : List ℤ) (cs bs buffer : List ℕ) (o : InOrder ps cs bs) (room : length (tape ps cs bs) ≤ length buffer)
    {one : List ℕ} (p : one ≡ over (point_bytes ps (vertices ps)) buffer) where
  points : Wrote (point_bytes ps (vertices ps)) buffer one
  points = let l = long o in wrote p (rw length-points (omega arith))

  module _ {rest : List ℕ} (q : rest ≡ over (facet_bytes cs bs (facets bs)) (window one (7 * vertices ps))) where
    abbrev two : List ℕ
    two = back one (7 * vertices ps) rest

    records : Wrote (record_bytes ps cs bs) buffer two
    records =
        let l = long o in
        let n : length (facet_bytes cs bs (facets bs)) ≡ facets bs + 2 * length cs = length_all_facets (divided (laid o)) in
        handed points (facet_bytes cs bs (facets bs)) (7 * vertices ps) q (length-points ps (vertices ps)) (omega arith)

    abbrev end : ℕ
    end = 7 * vertices ps + facets bs + 2 * length cs

    whole : {last : List ℕ} → last ≡ over (ending (vertices ps) (facets bs)) (window two end) → Wrote (tape ps cs bs) buffer (back two end last)
    whole e =
        let l = long o in
        handed records (ending (vertices ps) (facets bs)) end e (length-records ps (divided (laid o)) ∙ omega arith) (rw length-packed (omega arith))

pub put_points-requires : goal.put_points-requires
put_points-requires c =
    let l = long c.requires.in_order in
    record { placed = placed c.requires.in_order; room = omega (arith, c.requires.room) }

pub slice_bounds-put_facets-count : goal.slice_bounds-put_facets-count
slice_bounds-put_facets-count c =
    let l = long c.requires.in_order in
    let w = points _ _ _ _ c.requires.in_order c.requires.room c.put_points.ensures in
    omega (arith, c.requires.room)

pub slice_bounds-put_facets-start : goal.slice_bounds-put_facets-start
slice_bounds-put_facets-start c =
    let l = long c.requires.in_order in
    let w = points _ _ _ _ c.requires.in_order c.requires.room c.put_points.ensures in
    omega (arith, c.requires.room)

pub put_facets-requires : goal.put_facets-requires
put_facets-requires c =
    let l = long c.requires.in_order in
    let w = points _ _ _ _ c.requires.in_order c.requires.room c.put_points.ensures in
    record { laid = laid c.requires.in_order; room = rw length-window (omega (arith, c.requires.room)) }

pub slice_bounds-put_counts-count : goal.slice_bounds-put_counts-count
slice_bounds-put_counts-count c =
    let l = long c.requires.in_order in
    let w = records _ _ _ _ c.requires.in_order c.requires.room c.put_points.ensures c.put_facets.ensures in
    omega (arith, c.requires.room)

pub slice_bounds-put_counts-start : goal.slice_bounds-put_counts-start
slice_bounds-put_counts-start c =
    let l = long c.requires.in_order in
    let w = records _ _ _ _ c.requires.in_order c.requires.room c.put_points.ensures c.put_facets.ensures in
    omega (arith, c.requires.room)

pub put_counts-requires : goal.put_counts-requires
put_counts-requires c =
    let l = long c.requires.in_order in
    let w = records _ _ _ _ c.requires.in_order c.requires.room c.put_points.ensures c.put_facets.ensures in
    rw length-window (omega (arith, c.requires.room))

pub returns : goal.returns
returns c =
    (whole _ _ _ _ c.requires.in_order c.requires.room c.put_points.ensures c.put_facets.ensures
    c.put_counts.ensures).is
