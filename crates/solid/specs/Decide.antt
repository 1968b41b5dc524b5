-- Decisions that compute: a statement about finitely many numbers is proved by running its test. Assumes nothing.
use Rattle.std.specs.Prelude.{◌≡◌, ◌⊎◌, Bool, true, false, ℕ, zero, suc, ◌<◌, T, eqb, ltb, ℤ, ◌<ℤ◌}
use Rattle.std.proofs.Common.{subst, sym, inl, inr, arith, eqb→eq, ltb→lt, lt→ltb}
use Rattle.std.proofs.Math.Decide.{ℕ_discrete}
use Rattle.std.proofs.Math.Dec.{eqb_refl}
use Rattle.std.specs.Int.Signed.{lt_z, lt_z_yes}

-- the decision is yes
abbrev pub Yes : {A : Type 0} → Dec A → Type 0
Yes (yes a) = Unit {0}
Yes (no z) = ⊥

pub run : {A : Type 0} (d : Dec A) → Yes d → A
run (yes a) t = a
run (no z) t = absurd t

-- ---- by a test

abbrev pub by_test : {A : Type 0} (c : Bool) → (T c → A) → (A → T c) → Dec A
by_test true f g = yes (f tt)
by_test false f g = no g

abbrev pub same? : (m n : ℕ) → Dec (m ≡ n)
same? m n = by_test (eqb m n) (eqb→eq m n) (λ s. subst (λ n. T (eqb m n)) s (eqb_refl m))

abbrev pub less? : (m n : ℕ) → Dec (m < n)
less? m n = by_test (ltb m n) (ltb→lt m n) (lt→ltb m n)

abbrev pub below? : (a b : ℤ) → Dec (a <ℤ b)
below? a b = by_test (lt_z a b) (λ t. lt_z_yes t) (λ h. h.lt)

-- ---- from parts

infixr 55 ◌→?◌
infixr 60 ◌⊎?◌
infixr 65 ◌×?◌
abbrev pub ¬? : {A : Type 0} → Dec A → Dec (¬ A)
¬? (yes a) = no (λ z. z a)
¬? (no z) = yes z

abbrev pub ◌→?◌ : {A B : Type 0} → Dec A → Dec B → Dec (A → B)
◌→?◌ (no z) d = yes (λ a. absurd (z a))
◌→?◌ (yes a) (yes b) = yes (λ _. b)
◌→?◌ (yes a) (no z) = no (λ f. z (f a))

abbrev pub ◌×?◌ : {A B : Type 0} → Dec A → Dec B → Dec (A × B)
◌×?◌ (no z) d = no (λ p. z p.0)
◌×?◌ (yes a) (yes b) = yes (a, b)
◌×?◌ (yes a) (no z) = no (λ p. z p.1)

abbrev pub ◌⊎?◌ : {A B : Type 0} → Dec A → Dec B → Dec (A ⊎ B)
◌⊎?◌ (yes a) d = yes (inl a)
◌⊎?◌ (no y) (yes b) = yes (inr b)
◌⊎?◌ (no y) (no z) = no (λ s. elim s [ inl a ↦ y a | inr b ↦ z b ])

abbrev pub via : {A B : Type 0} → (A → B) → (B → A) → Dec A → Dec B
via f g (yes a) = yes (f a)
via f g (no z) = no (λ b. z (g b))

-- ---- of all numbers below n, and of some

abbrev pub all? : (n : ℕ) {A : ℕ → Type 0} → ((i : ℕ) → Dec (A i)) → Dec ((i : ℕ) → i < n → A i)
all? zero d = yes (λ i h. absurd (omega arith))
all? (suc n) {A} d = via (λ p i h. elim (ℕ_discrete i n) [ yes s ↦ subst A (sym s) p.0 | no o ↦ p.1 i (omega arith) ])
    (λ f. (f n (omega arith), λ i h. f i (omega arith))) (d n ×? all? n d)

abbrev pub some? : (n : ℕ) {A : ℕ → Type 0} → ((i : ℕ) → Dec (A i)) → Dec ((i : ℕ) × (i < n) × A i)
some? zero d = no (λ (i, h, a). omega arith)
some? (suc n) {A} d = via (λ s. elim s [ inl a ↦ (n, omega arith, a) | inr (i, h, a) ↦ (i, omega arith, a) ])
    (λ (i, h, a). elim (ℕ_discrete i n) [ yes s ↦ inl (subst A s a) | no o ↦ inr (i, omega arith, a) ]) (d n ⊎? some? n d)
