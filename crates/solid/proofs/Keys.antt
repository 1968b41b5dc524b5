-- A direction in which no two points of a box are equally high, and in which the height along n decides first. Assumes nothing.
use Rattle.std.specs.Prelude.{◌≡◌, ℕ, ℤ, pos, ◌<ℤ◌}
use Rattle.std.proofs.Common.{◌∙◌, sym}
use Rattle.whole.specs.Solver.{num, neg, ◌≐◌, solve}
use Rattle.whole.specs.Order.{◌≼◌, ◌≺◌, ◌≃◌, ◌⇒◌, ◌since◌, hyp, by, ◌⊞◌, ◌⊠◌, prove, ≤-antisym, never, not_lt, not_le, clash, eq→le}
use Rattle.whole.specs.Formula.{exprs}
use Rattle.whole.specs.Bounds.{◌within◌, within_low, within-high}
use Rattle.space.specs.Vec.{Vec, vec, dot}
use Rattle.space.specs.Vectors.{◌·◌}
use Rattle.solid.specs.Box.{Box}
use Rattle.solid.specs.Key.{baseᵒ, shiftᵒ, shift, keyᵒ, key}

-- ---- numbers h B + l whose last digit l is within c, to the base B = c + 1: h decides the sign

module _ {b : ℕ} {l : ℤ} (s : l within b) (h : ℤ) where
  carry_down : h <ℤ pos 0 → shift (pos b) h l <ℤ pos 0
  unfolding shift
  carry_down k = not_le (λ p. never (prove 3 (λ c l h. let o = num (pos 0) in
      neg c ≼ l ⇒ λ i. l ≼ c ⇒ λ j. h ≺ o ⇒ λ k. o ≼ shiftᵒ exprs (num (pos 1)) c h l ⇒ λ p.
      num (pos 1) ≼ o since hyp k ⊠ (hyp i ⊞ hyp j) ⊞ hyp k ⊞ hyp k ⊞ hyp j ⊞ hyp j ⊞ hyp p ⊞ hyp p)
      tt (pos b) l h (within_low s) (within-high s) k p))

  carry_up : pos 0 <ℤ h → pos 0 <ℤ shift (pos b) h l
  unfolding shift
  carry_up k = not_le (λ p. never (prove 3 (λ c l h. let o = num (pos 0) in
      neg c ≼ l ⇒ λ i. l ≼ c ⇒ λ j. o ≺ h ⇒ λ k. shiftᵒ exprs (num (pos 1)) c h l ≼ o ⇒ λ p.
      num (pos 1) ≼ o since hyp k ⊠ (hyp i ⊞ hyp j) ⊞ hyp k ⊞ hyp k ⊞ hyp i ⊞ hyp i ⊞ hyp p ⊞ hyp p)
      tt (pos b) l h (within_low s) (within-high s) k p))

  head_0 : shift (pos b) h l ≡ pos 0 → h ≡ pos 0
  head_0 e = ≤-antisym h (pos 0) (not_lt (λ k. clash (carry_up k) (eq→le e))) (not_lt (λ k. clash (carry_down k) (eq→le (sym e))))

  last_0 : shift (pos b) h l ≡ pos 0 → l ≡ pos 0
  unfolding shift
  last_0 e = prove 3 (λ c l h. let o = num (pos 0) in h ≃ o ⇒ λ i. shiftᵒ exprs (num (pos 1)) c h l ≃ o ⇒ λ e.
      l ≃ o since by (num (pos 1)) e ⊞ by (neg (baseᵒ exprs (num (pos 1)) c)) i) tt (pos b) l h (head_0 e) e

-- ---- the key, a number of four digits: the height along n, then x, y and z

digits : (c : ℤ) (n r : Vec ℤ) → key c n · r ≡ shift c (shift c (shift c (n · r) r.x) r.y) r.z
unfolding key shift ◌·◌
digits c n r = solve 7 (λ c nx ny nz x y z.
    let one = num (pos 1) in
    let n = vec nx ny nz in
    let r = vec x y z in
    let shiftᵉ = shiftᵒ exprs one c in
    dot exprs (keyᵒ exprs (baseᵒ exprs one c) one n) r ≐ shiftᵉ (shiftᵉ (shiftᵉ (dot exprs n r) x) y) z)
    tt c n.x n.y n.z r.x r.y r.z

module _ {b : ℕ} {r : Vec ℤ} (B : Box b r) (n : Vec ℤ) where
  pub key-higher : pos 0 <ℤ n · r → pos 0 <ℤ key (pos b) n · r
  key-higher h = rw digits (carry_up B.z _ (carry_up B.y _ (carry_up B.x (n · r) h)))

  module _ (e : key (pos b) n · r ≡ pos 0) where
    xyz : shift (pos b) (shift (pos b) (shift (pos b) (n · r) r.x) r.y) r.z ≡ pos 0
    xyz = sym (digits (pos b) n r) ∙ e

    xy : shift (pos b) (shift (pos b) (n · r) r.x) r.y ≡ pos 0
    xy = head_0 B.z _ xyz

    -- only 0 is as high as 0
    pub key-0 : (r.x ≡ pos 0) × (r.y ≡ pos 0) × (r.z ≡ pos 0)
    key-0 = (last_0 B.x (n · r) (head_0 B.y _ xy), last_0 B.y _ xy, last_0 B.z _ xyz)
