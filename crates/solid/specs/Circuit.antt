-- A facet's positions make a circuit. Assumes nothing.
use Rattle.std.specs.Prelude.{◌≡◌, refl, ◌≢◌, ◌⊎◌, Bool, true, false, cond, ℕ, zero, suc, ◌≤◌, ◌<◌, eqb}
use Rattle.std.proofs.Common.{inl, inr, arith, eqb-true}
use Rattle.std.proofs.lemmas.Bool.{eqb-false}
use Rattle.solid.specs.Tables.{after}

-- the last one wraps, any other is followed by the next number
pub after-cases : (k i : ℕ) → ((suc i ≡ k) × (after k i ≡ 0)) ⊎ ((suc i ≢ k) × (after k i ≡ suc i))
unfolding after
after-cases k i = go (eqb (suc i) k) refl
  where
    go : (c : Bool) → eqb (suc i) k ≡ c → ((suc i ≡ k) × (cond c 0 (suc i) ≡ 0)) ⊎ ((suc i ≢ k) × (cond c 0 (suc i) ≡ suc i))
    go true e = inl (eqb-true (suc i) k e, refl)
    go false e = inr (eqb-false (suc i) k e, refl)

pub after-lt : (k i : ℕ) → i < k → after k i < k
after-lt k i h = elim (after-cases k i) [ inl c ↦ omega arith | inr c ↦ omega arith ]

-- each position comes after one
pub before : (k i : ℕ) → i < k → (j : ℕ) × (j < k) × (after k j ≡ i)
before zero i h = absurd (omega arith)
before (suc k) zero h = elim (after-cases (suc k) k) [ inl c ↦ (k, omega arith, c.1) | inr c ↦ absurd (c.0 refl) ]
before (suc k) (suc i) h = elim (after-cases (suc k) i) [ inl c ↦ absurd (omega arith) | inr c ↦ (i, omega arith, c.1) ]

-- in a circuit of three or more, two steps do not lead back
pub no_two : (k i : ℕ) → 3 ≤ k → i < k → after k (after k i) ≢ i
no_two k i big h s = elim (after-cases k i) [
  | inl c ↦ elim (after-cases k (after k i)) [ inl d ↦ omega arith | inr d ↦ omega arith ]
  | inr c ↦ elim (after-cases k (after k i)) [ inl d ↦ omega arith | inr d ↦ omega arith ]
]
