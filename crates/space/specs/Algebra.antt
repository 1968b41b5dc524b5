-- Laws of the determinant and the dot product: the last row, and vectors that lie in one plane. Assumes nothing.
use Rattle.std.specs.Prelude.{◌≡◌, ℤ, pos, ◌+ℤ◌, ◌*ℤ◌, ◌<ℤ◌}
use Rattle.std.proofs.Common.{◌∙◌, ap}
use Rattle.std.proofs.Math.IntN.{*ℤ-zero}
use Rattle.whole.specs.Solver.{num, neg, ◌⊕◌, ◌⊗◌, ◌≐◌}
use Rattle.whole.specs.Order.{◌≃◌, ◌⇒◌, ◌since◌, by, ◌⊞◌}
use Rattle.whole.specs.Signs.{cancel_0}
use Rattle.whole.specs.Formula.{ints, exprs}
use Rattle.space.specs.Vec.{Vec, dot, cross, det as det³, solve³, prove³}
use Rattle.space.specs.Vectors.{◌·◌, det}

-- the determinant along the last row
pub det-last : (p q r : Vec ℤ) → cross ints p q · r ≡ det p q r
unfolding det ◌·◌
det-last = solve³ 3 (λ p q r. dot exprs (cross exprs p q) r ≐ det³ exprs p q r) tt

-- ---- where n is normal to a and b

pub parallel : (n a b x : Vec ℤ) → n · a ≡ pos 0 → n · b ≡ pos 0 → n · n *ℤ det a b x ≡ det n a b *ℤ (n · x)
unfolding det ◌·◌
parallel = prove³ 4 (λ n a b x. let o = num (pos 0) in
    dot exprs n a ≃ o ⇒ λ h. dot exprs n b ≃ o ⇒ λ k.
    dot exprs n n ⊗ det³ exprs a b x ≃ det³ exprs n a b ⊗ dot exprs n x since by (det³ exprs n b x) h ⊞ by (neg (det³ exprs n a x)) k) tt

pub coplanar : (n a b c : Vec ℤ) → pos 0 <ℤ n · n → n · a ≡ pos 0 → n · b ≡ pos 0 → n · c ≡ pos 0 → det a b c ≡ pos 0
coplanar n a b c h na nb nc = cancel_0 h (parallel n a b c na nb ∙ ap (λ z. det n a b *ℤ z) nc ∙ *ℤ-zero (det n a b))

-- ---- three vectors of one plane

by_volume : (n P Q U l : Vec ℤ) → det Q U P ≡ pos 0 → det n U P *ℤ (l · Q) +ℤ det n Q U *ℤ (l · P) ≡ det n Q P *ℤ (l · U)
unfolding det ◌·◌
by_volume = prove³ 5 (λ n P Q U l. det³ exprs Q U P ≃ num (pos 0) ⇒ λ h.
    det³ exprs n U P ⊗ dot exprs l Q ⊕ det³ exprs n Q U ⊗ dot exprs l P ≃ det³ exprs n Q P ⊗ dot exprs l U since by (dot exprs l n) h) tt

pub in_plane : (n P Q U l : Vec ℤ) → pos 0 <ℤ n · n → n · P ≡ pos 0 → n · Q ≡ pos 0 → n · U ≡ pos 0
    → det n U P *ℤ (l · Q) +ℤ det n Q U *ℤ (l · P) ≡ det n Q P *ℤ (l · U)
in_plane n P Q U l h nP nQ nU = by_volume n P Q U l (coplanar n Q U P h nQ nU nP)
