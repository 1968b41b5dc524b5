-- `words::next` meets its contract. Assumes nothing.
use Rattle.std.proofs.Common.{rules}
use Rattle.words.specs.Runs.{among, other, among_any}
use Rattle.words.proofs.next.Goals as goal

pub returns : goal.returns
returns c =
    let set = c.args.set.now in
    let start = c.past-start.ensures (among set) (λ b t e. rw (← among_any set b) (search rules)) in
    let end = c.past-end.ensures (other (among set)) (λ b t e. rw (← among_any set b) (search rules)) in
    rw (end, start)
