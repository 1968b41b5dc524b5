-- `tables::first_place` meets its contract: whatever the closure finds, the facets before f have none. Assumes nothing.
use Rattle.std.proofs.Common.{sym, ◌∙◌}
use Rattle.tables.specs.Found.{free_hit, free_more, free_all}
use Rattle.tables.proofs.first_place.Goals as goal

pub returns-in-Some : goal.returns-in-Some
returns-in-Some g c sizes test h =
    free_hit (c.loop-f.invariant sizes test h) c.loop-f-test.true (sym c.in-Some.is ∙ h c.loop-f.f _ c.loop-f-test.true c.find.ensures)

pub loop-f-preserved : goal.loop-f-preserved
loop-f-preserved g c sizes test h =
    free_more (c.loop-f.invariant sizes test h) c.loop-f-test.true (sym c.in_default.is ∙ h c.loop-f.f _ c.loop-f-test.true c.find.ensures)

pub returns : goal.returns
returns g c sizes test h = free_all (c.loop-f.invariant sizes test h) c.loop-f-test.false
