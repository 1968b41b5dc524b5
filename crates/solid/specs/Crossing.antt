-- Where the plane through 0 with the normal d crosses wedges. Assumes nothing.
use Rattle.std.specs.Prelude.{◌≡◌, ℤ, pos, ◌-ℤ◌, ◌*ℤ◌, ◌≤ℤ◌, ◌<ℤ◌}
use Rattle.std.proofs.Common.{sym}
use Rattle.whole.specs.Solver.{num, neg, ◌⊖◌, ◌⊗◌}
use Rattle.whole.specs.Order.{◌≼◌, ◌≺◌, ◌≃◌, ◌⇒◌, ◌since◌, hyp, by, ◌⊞◌, ◌⊠◌, prove, not_lt, clash}
use Rattle.whole.specs.Signs.{same-≤, same-<}
use Rattle.whole.specs.Formula.{exprs}
use Rattle.space.specs.Vec.{Vec, dot, cross, det as det³, prove³}
use Rattle.space.specs.Vectors.{◌·◌, det, swap-≤}
use Rattle.solid.specs.Left.{Left, upright}

-- the wedge from a to b is crossed at y = (d · b) a - (d · a) b, which is d × n but for a positive factor; here is m · y
crossing : (n m a b d : Vec ℤ) → n · a ≡ pos 0 → n · b ≡ pos 0
    → n · n *ℤ (d · b *ℤ (m · a) -ℤ d · a *ℤ (m · b)) ≡ det n a b *ℤ det n m d
unfolding det ◌·◌
crossing = prove³ 5 (λ n m a b d. let o = num (pos 0) in
    dot exprs n a ≃ o ⇒ λ h. dot exprs n b ≃ o ⇒ λ k.
    dot exprs n n ⊗ (dot exprs d b ⊗ dot exprs m a ⊖ dot exprs d a ⊗ dot exprs m b) ≃ det³ exprs n a b ⊗ det³ exprs n m d
    since by (det³ exprs n b (cross exprs m d)) h ⊞ by (neg (det³ exprs n a (cross exprs m d))) k) tt

module _ {u w x y : ℤ} (h : pos 0 <ℤ u) (i : w ≤ℤ pos 0) (j : y ≤ℤ pos 0) where
  slope-≤ : x ≤ℤ pos 0 → (u *ℤ x -ℤ w *ℤ y) ≤ℤ pos 0
  slope-≤ = prove 4 (λ u w x y. let o = num (pos 0) in
      o ≺ u ⇒ λ h. w ≼ o ⇒ λ i. y ≼ o ⇒ λ j. x ≼ o ⇒ λ k. u ⊗ x ⊖ w ⊗ y ≼ o since hyp h ⊠ hyp k ⊞ hyp k ⊞ hyp i ⊠ hyp j)
      tt u w x y h i j

  slope-< : x <ℤ pos 0 → (u *ℤ x -ℤ w *ℤ y) <ℤ pos 0
  slope-< = prove 4 (λ u w x y. let o = num (pos 0) in
      o ≺ u ⇒ λ h. w ≼ o ⇒ λ i. y ≼ o ⇒ λ j. x ≺ o ⇒ λ k.
      u ⊗ x ⊖ w ⊗ y ≺ o since hyp h ⊠ hyp k ⊞ hyp h ⊞ hyp k ⊞ hyp i ⊠ hyp j)
      tt u w x y h i j

-- a second wedge, with the normal m, is crossed at y': m · y and n · y' have opposite signs, so a' is not below the plane of the first
pub one_crossing : {n m a b a' b' : Vec ℤ} → Left n a b → Left m a' b' → (d : Vec ℤ)
    → d · a ≤ℤ pos 0 → pos 0 <ℤ d · b → d · a' ≤ℤ pos 0 → pos 0 <ℤ d · b'
    → m · a ≤ℤ pos 0 → m · b ≤ℤ pos 0 → n · b' ≤ℤ pos 0 → pos 0 ≤ℤ n · a'
one_crossing {n} {m} {a} {b} {a'} {b'} t s d da db da' db' ma mb nb' =
    not_lt (λ na'. clash
    (same-< s.left (upright s) (sym (crossing m n a' b' d s.on_a s.on_b)) (slope-< db' da' nb' na'))
    (swap-≤ n m d (same-≤ t.left (upright t) (sym (crossing n m a b d t.on_a t.on_b)) (slope-≤ db da mb ma))))
