-- Vectors in the plane, their determinant shut, and the solver for statements about them. Assumes nothing.
use Rattle.std.specs.Prelude.{◌≡◌, ◌∷◌, ℕ, suc, T, ℤ, neg_ℤ, ◌-ℤ◌}
use Rattle.whole.specs.Solver.{var, neg, ◌⊖◌, ◌⊗◌, Eqn, ◌≐◌, Holds, test, Group, In, fill, All, solve_in, solve}
use Rattle.whole.specs.Order.{Claim, Says, certain, nothing, prove_in}
use Rattle.whole.specs.Formula.{Ops, ints, exprs}

pub record Vec (A : Type 0) : Type 0 where
  pub x : A
  pub y : A

abbrev pub vec : {A : Type 0} → A → A → Vec A
vec a b = record { x = a; y = b }

-- ---- formulas, read over ℤ and by the solver

module _ {ℓ} (O : Ops {ℓ}) where
  open O use {C, minus as ◌-◌, times as ◌*◌}

  infixl 6 ◌-◌
  infixl 7 ◌*◌
  abbrev pub subᵒ : Vec C → Vec C → Vec C
  subᵒ p q = record { x = p.x - q.x; y = p.y - q.y }

  abbrev pub detᵒ : Vec C → Vec C → C
  detᵒ u v = u.x * v.y - u.y * v.x

abbrev pub sub : Vec ℤ → Vec ℤ → Vec ℤ
sub = subᵒ ints

abbrev pub opp : Vec ℤ → Vec ℤ
opp u = vec (neg_ℤ u.x) (neg_ℤ u.y)

-- shut but for the lemmas that say `unfolding det`
unfoldable pub det : Vec ℤ → Vec ℤ → ℤ
det u v = detᵒ ints u v

-- ---- statements in n vectors

abbrev pub two : Group
two = record { Of = Vec; size = 2; vars = λ k. vec (var k) (var (suc k)); onto = λ v ρ. v.x ∷ v.y ∷ ρ }

pub solve² : (n : ℕ) (f : In two Eqn n) → T (test (fill two n 0 f)) → All two n (λ ρ. Holds ρ (fill two n 0 f))
solve² = solve_in two

pub prove² : (n : ℕ) (f : In two Claim n) → T (certain nothing 0 (fill two n 0 f)) → All two n (λ ρ. Says ρ 0 (fill two n 0 f))
prove² = prove_in two

-- ---- the determinant's laws

pub det-skew : (u v : Vec ℤ) → det v u ≡ neg_ℤ (det u v)
unfolding det
det-skew = solve² 2 (λ u v. detᵒ exprs v u ≐ neg (detᵒ exprs u v)) tt

pub det-opp_l : (u v : Vec ℤ) → det (opp u) v ≡ neg_ℤ (det u v)
unfolding det
det-opp_l = solve² 2 (λ u v. neg u.x ⊗ v.y ⊖ neg u.y ⊗ v.x ≐ neg (detᵒ exprs u v)) tt

pub det-opp_r : (u v : Vec ℤ) → det u (opp v) ≡ neg_ℤ (det u v)
unfolding det
det-opp_r = solve² 2 (λ u v. u.x ⊗ neg v.y ⊖ u.y ⊗ neg v.x ≐ neg (detᵒ exprs u v)) tt

pub det-opp : (u v : Vec ℤ) → det (opp u) (opp v) ≡ det u v
unfolding det
det-opp = solve² 2 (λ u v. neg u.x ⊗ neg v.y ⊖ neg u.y ⊗ neg v.x ≐ detᵒ exprs u v) tt

pub opp-sub : (a b : Vec ℤ) → opp (sub b a) ≡ sub a b
opp-sub a b = λ i. record { x = turned a.x b.x i; y = turned a.y b.y i }
  where
    turned : (a b : ℤ) → neg_ℤ (b -ℤ a) ≡ a -ℤ b
    turned = solve 2 (λ a b. neg (b ⊖ a) ≐ a ⊖ b) tt
