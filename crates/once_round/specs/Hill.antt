-- Numbers along a chain: what each step does the whole way does, and a hill stands above its two feet. Assumes nothing.
use Rattle.std.specs.Prelude.{◌≡◌, ◌⊎◌, ℕ, zero, suc, ◌≤◌, ◌<◌, ℤ, pos, ◌≤ℤ◌, ◌<ℤ◌}
use Rattle.std.proofs.Common.{inl, inr, eq-or-lt_of_le, le_of_suc-le-suc, not-suc-le-zero, arith}
use Rattle.whole.specs.Order.{le_or_lt, lt→le, ≤-<-trans, <-trans, clash, not_le}

-- a transitive relation that holds at each step from a to b holds from a to b
climb : (R : ℤ → ℤ → Type 0) → ((x y z : ℤ) → R x y → R y z → R x z) → (f : ℕ → ℤ) (a b : ℕ) → a < b
    → ((j : ℕ) → a ≤ j → j < b → R (f j) (f (suc j))) → R (f a) (f b)
climb R trans f a zero l h = absurd (not-suc-le-zero l)
climb R trans f a (suc b) l h = go (climb R trans f a b) (eq-or-lt_of_le (le_of_suc-le-suc l))
  where
    go : (a < b → ((j : ℕ) → a ≤ j → j < b → R (f j) (f (suc j))) → R (f a) (f b)) → (a ≡ b) ⊎ (a < b) → R (f a) (f (suc b))
    go ih (inl e) = rw e (h b (omega arith) (omega arith))
    go ih (inr k) = trans (f a) (f b) (f (suc b)) (ih k (λ j p q. h j p (omega arith))) (h b (omega arith) (omega arith))

pub rises : (f : ℕ → ℤ) (a b : ℕ) → a < b → ((j : ℕ) → a ≤ j → j < b → f j <ℤ f (suc j)) → f a <ℤ f b
rises = climb ◌<ℤ◌ <-trans

pub falls : (f : ℕ → ℤ) (a b : ℕ) → a < b → ((j : ℕ) → a ≤ j → j < b → f (suc j) <ℤ f j) → f b <ℤ f a
falls = climb (λ x y. y <ℤ x) (λ x y z h k. <-trans z y x k h)

-- where from a to b every step after one that does not rise falls, what is not negative at a and at b is positive between
pub hill : (f : ℕ → ℤ) (a b : ℕ) → pos 0 ≤ℤ f a → pos 0 ≤ℤ f b
    → ((k l : ℕ) → a ≤ k → k < l → l < b → f (suc k) ≤ℤ f k → f (suc l) <ℤ f l) → (j : ℕ) → a < j → j < b → pos 0 <ℤ f j
hill f a b at_a at_b fall zero l m = absurd (not-suc-le-zero l)
hill f a b at_a at_b fall (suc j) l m = go (le_or_lt (f (suc j)) (f j))
  where
    go : (f (suc j) ≤ℤ f j) ⊎ (f j <ℤ f (suc j)) → pos 0 <ℤ f (suc j)
    go (inl down) = ≤-<-trans (pos 0) (f b) (f (suc j)) at_b (falls f (suc j) b m (λ r p q. fall j r (omega arith) p q down))
    go (inr up) = ≤-<-trans (pos 0) (f a) (f (suc j)) at_a (rises f a (suc j) l (λ r p q. not_le (λ d. before r p d (eq-or-lt_of_le (le_of_suc-le-suc q)))))
      where
        before : (r : ℕ) → a ≤ r → f (suc r) ≤ℤ f r → (r ≡ j) ⊎ (r < j) → ⊥
        before r p d (inl e) = clash up (rw e at d)
        before r p d (inr k) = clash up (lt→le (fall r j p k (omega arith) d))
