-- The loop stands at a place of the reading. Assumes nothing.
use Rattle.std.proofs.Common.{rules, sym, ap, ◌∙◌, ◌+◌, ◌*◌, arith}
use Rattle.std.specs.Prelude.{Ok}
use Rattle.tape.specs.Reading.{look_at, read_tape}
use Rattle.tape.specs.Whole.{looks}
use Rattle.tape.specs.declared.Record.{Record}
use Rattle.reader.specs.Deciding.{Stands, stands_0, stands_point, stands_facet, stands_end, stands_bad}
use Rattle.reader.proofs.decide.Goals as goal
use Rattle.reader.proofs.decide.Goals.{In-Point, In-Facet}

pub loop-at-init : goal.loop-at-init
loop-at-init c = stands_0 _

pub returns-in_err-look : goal.returns-in_err-look
returns-in_err-look c =
    let e = stands_bad (looks _) c.loop-at.invariant (sym c.look.ensures ∙ c.in_err-look.was) in
    search rules

-- after a point, and after a facet
point : (c : In-Point) → Stands c.args.tape.now (look_at c.args.tape.now) (read_tape c.args.tape.now) (c.loop-at.at + 7)
    (c.loop-at.read.vertices + 1) c.loop-at.read.facets c.loop-at.read.corners
point c = stands_point (looks _) c.loop-at.invariant (sym c.look.ensures ∙ c.in_ok-look.was ∙ ap (λ (r : Record). Ok r) c.in-Point.is)

facet : (c : In-Facet) → Stands c.args.tape.now (look_at c.args.tape.now) (read_tape c.args.tape.now) (c.loop-at.at + (1 + 2 * c.in-Facet.n))
    c.loop-at.read.vertices (c.loop-at.read.facets + 1) (c.loop-at.read.corners + c.in-Facet.n)
facet c = stands_facet (looks _) c.loop-at.invariant (sym c.look.ensures ∙ c.in_ok-look.was ∙ ap (λ (r : Record). Ok r) c.in-Facet.is)

pub loop-at-smaller-in-Point : goal.loop-at-smaller-in-Point
loop-at-smaller-in-Point c = let p = point (goal.at.loop-at-smaller-in-Point c).In-Point in omega arith

pub loop-at-preserved-in-Point : goal.loop-at-preserved-in-Point
loop-at-preserved-in-Point c = point (goal.at.loop-at-preserved-in-Point c).In-Point

pub overflow_mul-at : goal.overflow_mul-at
overflow_mul-at c = let p = facet (goal.at.overflow_mul-at c).In-Facet in omega arith

pub overflow_add-at-in-Facet : goal.overflow_add-at-in-Facet
overflow_add-at-in-Facet c = let p = facet (goal.at.overflow_add-at-in-Facet c).In-Facet in omega arith

pub overflow_add-at-in-Facet-2 : goal.overflow_add-at-in-Facet-2
overflow_add-at-in-Facet-2 c = let p = facet (goal.at.overflow_add-at-in-Facet-2 c).In-Facet in omega arith

pub overflow_add-read-in-Facet-2 : goal.overflow_add-read-in-Facet-2
overflow_add-read-in-Facet-2 c = let p = facet (goal.at.overflow_add-read-in-Facet-2 c).In-Facet in omega arith

pub loop-at-smaller : goal.loop-at-smaller
loop-at-smaller c = let p = facet (goal.at.loop-at-smaller c).In-Facet in omega arith

pub loop-at-preserved : goal.loop-at-preserved
loop-at-preserved c = facet (goal.at.loop-at-preserved c).In-Facet

pub returns-in-End : goal.returns-in-End
returns-in-End c = stands_end (looks _) c.loop-at.invariant (sym c.look.ensures ∙ c.in_ok-look.was ∙ ap (λ (r : Record). Ok r) c.in-End.is)
