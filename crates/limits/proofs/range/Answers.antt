-- `limits::range` meets its contract. Assumes nothing.
use Rattle.std.proofs.Common.{rules, tests}
use Rattle.limits.specs.Rules.{out_of_range}
use Rattle.limits.proofs.range.Goals as goal

pub returns : goal.returns
returns c = c.lowest.ensures (out_of_range c.args.points.now) (λ v b l h. search (rules, tests))
