-- `apart::apart` meets its contract: a facet that has no mark isn't reached. Assumes nothing.
use Rattle.std.proofs.Common.{rules, tests}
use Rattle.apart.specs.Apart.{is_apart}
use Rattle.apart.specs.Flooding.{apart-test}
use Rattle.apart.proofs.apart.Goals as goal

pub returns : goal.returns
returns c =
    c.lowest.ensures (is_apart c.args.corners.now c.args.begins.now) (λ f b l h. rw (apart-test c.requires c.reach.ensures l) (search (rules, tests)))
