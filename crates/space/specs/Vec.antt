-- Vectors of three numbers, their products, and the solver for statements about them. Assumes nothing.
use Rattle.std.specs.Prelude.{◌∷◌, ℕ, suc, T}
use Rattle.whole.specs.Solver.{var, Eqn, Holds, test, Group, In, fill, All, solve_in}
use Rattle.whole.specs.Order.{Claim, Says, certain, nothing, prove_in}
use Rattle.whole.specs.Formula.{Ops}

pub record Vec (A : Type 0) : Type 0 where
  pub x : A
  pub y : A
  pub z : A

abbrev pub vec : {A : Type 0} → A → A → A → Vec A
vec a b c = record { x = a; y = b; z = c }

module _ {ℓ} (O : Ops {ℓ}) where
  open O use {C, plus as ◌+◌, minus as ◌-◌, times as ◌*◌}

  infixl 6 ◌+◌ ◌-◌
  infixl 7 ◌*◌
  abbrev pub sub : Vec C → Vec C → Vec C
  sub p q = record { x = p.x - q.x; y = p.y - q.y; z = p.z - q.z }

  abbrev pub dot : Vec C → Vec C → C
  dot p q = p.x * q.x + p.y * q.y + p.z * q.z

  abbrev pub cross : Vec C → Vec C → Vec C
  cross p q = record { x = p.y * q.z - p.z * q.y; y = p.z * q.x - p.x * q.z; z = p.x * q.y - p.y * q.x }

  -- the determinant of three rows
  abbrev pub det : Vec C → Vec C → Vec C → C
  det p q r = dot p (cross q r)

-- ---- statements in n vectors

abbrev pub three : Group
three = record { Of = Vec; size = 3; vars = λ k. vec (var k) (var (suc k)) (var (suc (suc k))); onto = λ v ρ. v.x ∷ v.y ∷ v.z ∷ ρ }

pub solve³ : (n : ℕ) (f : In three Eqn n) → T (test (fill three n 0 f)) → All three n (λ ρ. Holds ρ (fill three n 0 f))
solve³ = solve_in three

pub prove³ : (n : ℕ) (f : In three Claim n) → T (certain nothing 0 (fill three n 0 f)) → All three n (λ ρ. Says ρ 0 (fill three n 0 f))
prove³ = prove_in three
