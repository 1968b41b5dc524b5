-- "Prove that no two outcomes can both satisfy a promise". Each line is over the promise itself, as the source has it: `Post` of the arguments a, a
-- result, and the arguments at exit. Two outcomes r, e and s, f that it holds of have the same result, and each table lent for writing holds the
-- same at both exits. Assumes nothing.
use Rattle.std.specs.Prelude.{◌≡◌}
use Rattle.std.proofs.Common.{sym, ◌∙◌}
use contract.Lifetimes.{Lfts}
use Rattle.stages.specs.HandsOut.{one_outcome}
use Rattle.judge.proofs.judge.Reads as judge
use Rattle.judge.proofs.judge_with_index.Reads as with-index
use Rattle.walk.proofs.walk.Reads as walk
use Rattle.tables.proofs.facet.Reads as facet
use Rattle.outline.proofs.judge_outline.Reads as outline
use Rattle.reader.proofs.read_tape.Reads as read
use Rattle.writer.proofs.write_tape.Reads as write
use Rattle.programs.proofs.judge_line.Reads as judge_line
use Rattle.programs.proofs.walk_line.Reads as walk-line
use Rattle.exports.proofs.solid_judge.Reads as solid-judge
use Rattle.exports.proofs.solid_walk.Reads as solid-walk
use Rattle.exports.proofs.solid_facet.Reads as solid-facet
use Rattle.exports.proofs.solid_outline.Reads as solid-outline
use Rattle.exports.proofs.solid_read_tape.Reads as solid-read
use Rattle.exports.proofs.solid_write_tape.Reads as solid-write

-- the law of them all: what is equal to what a definition says is equal
one : {A : Type 0} {said r s : A} → r ≡ said → s ≡ said → r ≡ s
one p q = p ∙ sym q

pub judge_one : (κs : Lfts 3) (a : _) (r s : _) (e f : _) → judge.Post κs a r e → judge.Post κs a s f → r ≡ s
judge_one κs a r s e f p q = one p q

-- and the trail
pub walk-one : (κs : Lfts 4) (a : _) (r s : _) (e f : _) → walk.Post κs a r e → walk.Post κs a s f
    → (r ≡ s) × (e.1.1.1.1.1.0.now ≡ f.1.1.1.1.1.0.now)
walk-one κs a r s e f (p, t) (q, u) = (one p q, one t u)

-- the part's contents, and where it lies
pub facet-one : (κs : Lfts 3) (a : _) (r s : _) (e f : _) → facet.Post κs a r e → facet.Post κs a s f → (r.now ≡ s.now) × (r.ref_ptr ≡ s.ref_ptr)
facet-one κs a r s e f p q = (one p.is q.is, one p.at q.at)

pub outline_one : (κs : Lfts 1) (a : _) (r s : _) (e f : _) → outline.Post κs a r e → outline.Post κs a s f → r ≡ s
outline_one κs a r s e f p q = one p q

-- and points, corners, begins
pub read_one : (κs : Lfts 4) (a : _) (r s : _) (e f : _) → read.Post κs a r e → read.Post κs a s f
    → (r ≡ s) × ((e.1.0.now ≡ f.1.0.now) × ((e.1.1.0.now ≡ f.1.1.0.now) × (e.1.1.1.0.now ≡ f.1.1.1.0.now)))
read_one κs a r s e f (p, (t, (u, v))) (p', (t', (u', v'))) = (one p p', (one t t', (one u u', one v v')))

-- and the buffer
pub write_one : (κs : Lfts 4) (a : _) (r s : _) (e f : _) → write.Post κs a r e → write.Post κs a s f
    → (r ≡ s) × (e.1.1.1.0.now ≡ f.1.1.1.0.now)
write_one κs a r s e f (p, t) (q, u) = (one p q, one t u)

pub judge_line_one : (κs : Lfts 1) (a : _) (r s : _) (e f : _) → judge_line.Post κs a r e → judge_line.Post κs a s f → r ≡ s
judge_line_one κs a r s e f (p, m) (q, n) = one p q

pub walk-line_one : (κs : Lfts 2) (a : _) (r s : _) (e f : _) → walk-line.Post κs a r e → walk-line.Post κs a s f → r ≡ s
walk-line_one κs a r s e f (p, m) (q, n) = one p q

-- ---- the functions for C: and `out`, which is lent last

pub solid_judge_one : (κs : Lfts 4) (a : _) (r s : _) (e f : _) → solid-judge.Post κs a r e → solid-judge.Post κs a s f
    → (r ≡ s) × (e.1.1.1.0.now ≡ f.1.1.1.0.now)
solid_judge_one κs a r s e f (p, t) (q, u) = (one p q, one t u)

-- and the trail
pub solid_walk_one : (κs : Lfts 5) (a : _) (r s : _) (e f : _) → solid-walk.Post κs a r e → solid-walk.Post κs a s f
    → (r ≡ s)
    × ((e.1.1.1.1.1.1.1.0.now ≡ f.1.1.1.1.1.1.1.0.now)
    × (e.1.1.1.1.1.1.1.1.0.now ≡ f.1.1.1.1.1.1.1.1.0.now))
solid_walk_one κs a r s e f (p, (t, u)) (p', (t', u')) = (one p p', (one t t', one u u'))

pub solid_facet_one : (κs : Lfts 4) (a : _) (r s : _) (e f : _) → solid-facet.Post κs a r e → solid-facet.Post κs a s f
    → (r ≡ s) × (e.1.1.1.1.0.now ≡ f.1.1.1.1.0.now)
solid_facet_one κs a r s e f (p, t) (q, u) = (one p q, one t u)

pub solid_outline_one : (κs : Lfts 2) (a : _) (r s : _) (e f : _) → solid-outline.Post κs a r e → solid-outline.Post κs a s f
    → (r ≡ s) × (e.1.0.now ≡ f.1.0.now)
solid_outline_one κs a r s e f (p, t) (q, u) = (one p q, one t u)

-- and points, corners, begins
pub solid_read_one : (κs : Lfts 5) (a : _) (r s : _) (e f : _) → solid-read.Post κs a r e → solid-read.Post κs a s f
    → (r ≡ s)
    × ((e.1.0.now ≡ f.1.0.now)
    × ((e.1.1.0.now ≡ f.1.1.0.now)
    × ((e.1.1.1.0.now ≡ f.1.1.1.0.now) × (e.1.1.1.1.0.now ≡ f.1.1.1.1.0.now))))
solid_read_one κs a r s e f (p, (t, (u, (v, w)))) (p', (t', (u', (v', w')))) = (one p p', (one t t', (one u u', (one v v', one w w'))))

-- and the buffer
pub solid_write_one : (κs : Lfts 5) (a : _) (r s : _) (e f : _) → solid-write.Post κs a r e → solid-write.Post κs a s f
    → (r ≡ s) × ((e.1.1.1.0.now ≡ f.1.1.1.0.now) × (e.1.1.1.1.0.now ≡ f.1.1.1.1.0.now))
solid_write_one κs a r s e f (p, (t, u)) (p', (t', u')) = (one p p', (one t t', one u u'))

-- ---- the judge as the walk calls it: and the two tables of the index

pub with_index_one : (κs : Lfts 4) (a : _) (r s : _) (e f : _) → with-index.Post κs a r e → with-index.Post κs a s f
    → (r ≡ s) × (e.1.1.1.0.now.edges ≡ f.1.1.1.0.now.edges) × (e.1.1.1.0.now.heads ≡ f.1.1.1.0.now.heads)
with_index_one κs a r s e f p q = one_outcome _ _ (λ r. r.number) p q
