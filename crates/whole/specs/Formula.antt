-- Formulas written once and read twice: over ℤ, and by the solver. Assumes nothing.
use Rattle.std.specs.Prelude.{◌≡◌, ℤ, ◌+ℤ◌, ◌-ℤ◌, ◌*ℤ◌}
use Rattle.whole.specs.Solver.{Expr, ◌⊕◌, ◌⊖◌, ◌⊗◌, Eqn, ◌≐◌}

-- Numbers C with a sum, a difference and a product, and equations S between them. A formula over `Ops` is written once, for both:
-- `ints`, where an equation is a type, and `exprs`, where it is what the solver tests.
pub record Ops {ℓ} : Type (ℓ + 1) where
  pub C : Type 0
  pub S : Type ℓ
  pub plus : C → C → C
  pub minus : C → C → C
  pub times : C → C → C
  pub equal : C → C → S

abbrev pub ints : Ops {1}
ints = record { C = ℤ; S = Type 0; plus = ◌+ℤ◌; minus = ◌-ℤ◌; times = ◌*ℤ◌; equal = ◌≡◌ }

abbrev pub exprs : Ops {0}
exprs = record { C = Expr; S = Eqn; plus = ◌⊕◌; minus = ◌⊖◌; times = ◌⊗◌; equal = ◌≐◌ }
