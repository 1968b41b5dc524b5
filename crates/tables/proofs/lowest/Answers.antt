-- `tables::lowest` meets its contract: whatever the closure tests, it fails before v. Assumes nothing.
use Rattle.std.proofs.Common.{sym, ◌∙◌}
use Rattle.whole.specs.First.{yet_more}
use Rattle.tables.specs.Found.{lowest-hit, lowest-end}
use Rattle.tables.proofs.lowest.Goals as goal

pub returns-then-applies : goal.returns-then-applies
returns-then-applies g c test h =
    lowest-hit (c.loop-v.invariant test h) (sym (h c.loop-v.v _ c.loop-v-test.true c.applies.ensures) ∙ c.if-applies.true) c.loop-v-test.true

pub loop-v-preserved : goal.loop-v-preserved
loop-v-preserved g c test h =
    yet_more (c.loop-v.invariant test h) (sym (h c.loop-v.v _ c.loop-v-test.true c.applies.ensures) ∙ c.if-applies.false) c.loop-v-test.true

pub returns : goal.returns
returns g c test h = lowest-end (c.loop-v.invariant test h) c.loop-v-test.false
