-- No operation wraps: the rows begin at the variables 0 and 3 of an expression. Assumes nothing.
use Rattle.std.proofs.Common.{List, [], ◌∷◌, ℤ, get_or, pos}
use mir.Syntax.{w64}
use Rattle.whole.specs.Solver.{Expr}
use Rattle.whole.specs.Formula.{exprs}
use Rattle.whole.specs.Machine.{Small, fits, computes}
use Rattle.space.specs.Vec.{three, dot}
use Rattle.space.specs.Vectors.{◌·◌}
use Rattle.space.specs.Rows.{BoundedRow, longest, broadest}
use Rattle.space.proofs.dot.Goals as goal

small : {n r : List ℤ} → BoundedRow broadest n → BoundedRow longest r
    → Small (get_or n 0 (pos 0) ∷ get_or n 1 (pos 0) ∷ get_or n 2 (pos 0) ∷ get_or r 0 (pos 0) ∷ get_or r 1 (pos 0) ∷ get_or r 2 (pos 0) ∷ [])
    (broadest ∷ broadest ∷ broadest ∷ longest ∷ longest ∷ longest ∷ [])
small p q = record { each = (p.at 0, (p.at 1, (p.at 2, (q.at 0, (q.at 1, (q.at 2, tt)))))) }

result : Expr
result = dot exprs (three.vars 0) (three.vars 3)

pub overflow_add-result : goal.overflow_add-result
unfolding result
overflow_add-result c = fits w64 (small c.requires.normal c.requires.difference) result tt 2

pub overflow_mul-result-2 : goal.overflow_mul-result-2
unfolding result
overflow_mul-result-2 c = fits w64 (small c.requires.normal c.requires.difference) result tt 1

pub overflow_mul-result-3 : goal.overflow_mul-result-3
unfolding result
overflow_mul-result-3 c = fits w64 (small c.requires.normal c.requires.difference) result tt 3

pub overflow_add-result-2 : goal.overflow_add-result-2
unfolding result
overflow_add-result-2 c = fits w64 (small c.requires.normal c.requires.difference) result tt 4

pub returns : goal.returns
unfolding result ◌·◌
returns c = computes w64 (small c.requires.normal c.requires.difference) result tt
