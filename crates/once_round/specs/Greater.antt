-- "by x, then by y" is one direction for points within the limits. Assumes nothing.
use Rattle.std.specs.Prelude.{◌≡◌, ◌⊎◌, ℤ, pos, negsuc, ◌≤ℤ◌, ◌<ℤ◌}
use Rattle.std.proofs.Common.{sym}
use Rattle.std.proofs.Math.Logic.{inl, inr}
use Rattle.std.specs.Int.Signed.{lt_z}
use Rattle.whole.specs.Solver.{Expr, num}
use Rattle.whole.specs.Order.{◌≼◌, ◌≺◌, ◌≃◌, ◌⇒◌, ◌since◌, hyp, lit, by, ◌⊞◌, ◌⊠◌, lt→le, eq→le, le_or_lt, trichotomy, true_lt_z, false_lt_z}
use Rattle.whole.specs.Bounds.{◌within◌, within_low, within-high}
use Rattle.whole.specs.Formula.{exprs}
use Rattle.space.specs.Plane.{Vec, vec, det, detᵒ, prove²}
use Rattle.points.specs.Range.{limit}
use Rattle.once_round.specs.Words.{is_greater}

-- 16,383 down for 1 to the right: what lies farther left of it is greater by x, and by y where x is equal
abbrev pub down : Vec ℤ
down = vec (pos 1) (negsuc 16382)

-- how far left of it a vector leads, for the solver
abbrev leftward : Vec Expr → Expr
leftward = detᵒ exprs (vec (num (pos 1)) (num (negsuc 16382)))

by_x : (a b : Vec ℤ) → a.y within limit → b.y within limit → a.x <ℤ b.x → det down a <ℤ det down b
unfolding det
by_x a b ha hb h =
    prove² 2 (λ a b. a.x ≺ b.x ⇒ λ h. a.y ≼ num (pos 8191) ⇒ λ p.
    num (negsuc 8190) ≼ b.y ⇒ λ q. leftward a ≺ leftward b since lit 16383 ⊠ hyp h ⊞ hyp p ⊞ hyp q)
    tt a b h (within-high ha) (within_low hb)

by_y : (a b : Vec ℤ) → a.x ≡ b.x → a.y <ℤ b.y → det down a <ℤ det down b
unfolding det
by_y =
    prove² 2 (λ a b. a.x ≃ b.x ⇒ λ e. a.y ≺ b.y ⇒ λ h. leftward a ≺ leftward b since by (num (pos 16383)) e ⊞ hyp h) tt

up_to_y : (a b : Vec ℤ) → a.x ≡ b.x → a.y ≤ℤ b.y → det down a ≤ℤ det down b
unfolding det
up_to_y =
    prove² 2 (λ a b. a.x ≃ b.x ⇒ λ e. a.y ≼ b.y ⇒ λ h. leftward a ≼ leftward b since by (num (pos 16383)) e ⊞ hyp h) tt

module _ (u v : Vec ℤ) (hu : u.y within limit) (hv : v.y within limit) where
  pub greater : is_greater u v ≡ lt_z (det down v) (det down u)
  unfolding is_greater
  greater = elim (trichotomy u.x v.x) [
    | inl h ↦ rw (false_lt_z (lt→le h), true_lt_z h, false_lt_z (lt→le (by_x u v hu hv h)))
    | inr (inl e) ↦ rw (false_lt_z (eq→le e), false_lt_z (eq→le (sym e))) (elim (le_or_lt u.y v.y) [
      | inl h ↦ rw (false_lt_z h, false_lt_z (up_to_y u v e h))
      | inr h ↦ rw (true_lt_z h, true_lt_z (by_y v u (sym e) h))
    ])
    | inr (inr h) ↦ rw (true_lt_z h, true_lt_z (by_x v u hv hu h))
  ]

  -- two points at different places are not level
  pub level : (det down u <ℤ det down v) ⊎ ((u ≡ v) ⊎ (det down v <ℤ det down u))
  level = elim (trichotomy u.x v.x) [
    | inl h ↦ inl (by_x u v hu hv h)
    | inr (inr h) ↦ inr (inr (by_x v u hv hu h))
    | inr (inl e) ↦ elim (trichotomy u.y v.y) [
      | inl h ↦ inl (by_y u v e h)
      | inr (inr h) ↦ inr (inr (by_y v u (sym e) h))
      | inr (inl f) ↦ inr (inl (λ i. record { x = e i; y = f i }))
    ]
  ]
