-- No operation wraps: the two rows begin at the variables 0 and 2 of an expression. Assumes nothing.
use Rattle.std.proofs.Common.{List, [], ◌∷◌, ℕ, ℤ, get_or, pos}
use mir.Syntax.{w64}
use Rattle.whole.specs.Solver.{Expr}
use Rattle.whole.specs.Formula.{exprs}
use Rattle.whole.specs.Machine.{Small, fits, computes}
use Rattle.space.specs.Plane.{two, detᵒ, det}
use Rattle.space.specs.Rows.{BoundedRow, longest}
use Rattle.space.proofs.minor.Goals as goal

small : {N : ℕ} {p q : List ℤ} → BoundedRow N p → BoundedRow longest q
    → Small (get_or p 0 (pos 0) ∷ get_or p 1 (pos 0) ∷ get_or q 0 (pos 0) ∷ get_or q 1 (pos 0) ∷ []) (N ∷ N ∷ longest ∷ longest ∷ [])
small p q = record { each = (p.at 0, (p.at 1, (q.at 0, (q.at 1, tt)))) }

result : Expr
result = detᵒ exprs (two.vars 0) (two.vars 2)

pub overflow_sub-result : goal.overflow_sub-result
unfolding det result
overflow_sub-result c = let (p, q) = c.requires in fits w64 (small p q) result tt 2

pub overflow_mul-result-2 : goal.overflow_mul-result-2
unfolding result
overflow_mul-result-2 c = let (p, q) = c.requires in fits w64 (small p q) result tt 1

pub returns : goal.returns
unfolding det result
returns c =
    let (p, q) = c.requires in
    record { exact = computes w64 (small p q) result tt; small = λ h. (computes w64 (small h q) result tt).small }
