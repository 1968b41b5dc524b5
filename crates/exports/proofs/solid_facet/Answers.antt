-- Where the part is empty the look-up refuses, and else it begins where its facet does. Assumes nothing.
use Rattle.tables.specs.LookUp.{look_up-refused, look_up-there}
use Rattle.exports.proofs.solid_facet.Goals as goal

pub returns-then-part-eq0 : goal.returns-then-part-eq0
returns-then-part-eq0 c =
    let a = c.args in
    let none = rw c.facet-part.ensures.is at c.if-part-eq0.true in
    let n = c.note_part.ensures in
    record { number = n.number_is; out = rw (look_up-refused a.points.now a.corners.now a.begins.now a.facet none, none) n.out_is }

pub bounds-begins-f : goal.bounds-begins-f
bounds-begins-f c =
    let a = c.args in
    (look_up-there a.points.now a.corners.now a.begins.now a.facet (rw c.facet-part.ensures.is at c.if-part-eq0.false)).0

pub returns : goal.returns
returns c =
    let a = c.args in
    let there = look_up-there a.points.now a.corners.now a.begins.now a.facet (rw c.facet-part.ensures.is at c.if-part-eq0.false) in
    let n = c.note_part-2.ensures in
    record { number = n.number_is; out = rw (← c.facet-part.ensures.is, there.1, ← c.wide.ensures.is) n.out_is }
