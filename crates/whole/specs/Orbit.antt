-- Stepping round among the places at which a test holds: no early return means that all are reached, and the other way. Assumes nothing.
use Rattle.std.specs.Prelude.{◌≡◌, refl, Bool, true, false, not, eqb}
use Rattle.std.proofs.Common.{sym, ap, ◌∙◌, true≢false, add-one, arith, eqb-true}
use Prim.Native.Nat.{ℕ, zero, suc, ◌+◌, ◌≤◌, ◌<◌}
use Rattle.std.proofs.Math.Decide.{ℕ_discrete, dec_lt}
use Rattle.std.proofs.lemmas.Bool.{eqb-false, not-true}
use Rattle.whole.specs.First.{first_below, never, first_holds}
use Rattle.whole.specs.Count.{Distinct, all_met, count_below, gap, but, count-but, both, is_false}

unfoldable pub iterate : (ℕ → ℕ) → ℕ → ℕ → ℕ
iterate s zero p = p
iterate s (suc k) p = s (iterate s k p)

pub iterate-more : (s : ℕ → ℕ) (k p : ℕ) → iterate s (k + 1) p ≡ s (iterate s k p)
unfolding iterate
iterate-more s k p = rw add-one refl

-- a step leads from a place at which f holds to another, and no two steps to the same
pub record Steps (f : ℕ → Bool) (n : ℕ) (s : ℕ → ℕ) : Type 0 where
  pub below : (p : ℕ) → p < n → f p ≡ true → s p < n
  pub holds : (p : ℕ) → p < n → f p ≡ true → f (s p) ≡ true
  pub once : (p q : ℕ) → p < n → q < n → f p ≡ true → f q ≡ true → s p ≡ s q → p ≡ q

-- the step comes back to p within k steps only by none
abbrev pub NoReturn : (ℕ → ℕ) → ℕ → ℕ → Type 0
NoReturn s p k = (j : ℕ) → 0 < j → j < k → iterate s j p ≡ p → ⊥

module _ {f : ℕ → Bool} {n : ℕ} {s : ℕ → ℕ} (S : Steps f n s) {p : ℕ} (l : p < n) (h : f p ≡ true) where
  at : (k : ℕ) → (iterate s k p < n) × (f (iterate s k p) ≡ true)
  unfolding iterate
  at zero = (l, h)
  at (suc k) = let (a, b) = at k in (S.below (iterate s k p) a b, S.holds (iterate s k p) a b)

  apart : {k : ℕ} → NoReturn s p k → (i j : ℕ) → i < j → j < k → iterate s i p ≡ iterate s j p → ⊥
  unfolding iterate
  apart r zero j a b e = r j a b (sym e)
  apart r (suc i) zero a b e = absurd (omega arith)
  apart r (suc i) (suc j) a b e = apart r i j (omega arith) (omega arith) (S.once _ _ (at i).0 (at j).0 (at i).1 (at j).1 e)

  pub reached : {k : ℕ} → count_below f n ≤ k → NoReturn s p k → (q : ℕ) → q < n → f q ≡ true → (j : ℕ) × (j < k) × (iterate s j p ≡ q)
  reached {k} c r q m e = elim (dec_lt (first_below met k) k) [
    | yes b ↦ (first_below met k, b, eqb-true _ _ (first_holds met k b))
    | no b ↦ absurd (all_met f n k (λ j. iterate s j p) d c q m e (λ j a. eqb-false _ _ (never met k (omega arith) j a)))
  ]
    where
      met : ℕ → Bool
      met j = eqb (iterate s j p) q

      d : Distinct f n k (λ j. iterate s j p)
      d = record { below = λ j a. (at j).0; holds = λ j a. (at j).1; apart = apart r }

shift : (s : ℕ → ℕ) (i x : ℕ) → iterate s i (s x) ≡ s (iterate s i x)
unfolding iterate
shift s zero x = refl
shift s (suc i) x = ap s (shift s i x)

-- a place reached from p comes back after j steps only where p does
pub return_first : {f : ℕ → Bool} {n : ℕ} {s : ℕ → ℕ} {p : ℕ} → Steps f n s → p < n → f p ≡ true → (j k : ℕ)
    → iterate s j (iterate s k p) ≡ iterate s k p → iterate s j p ≡ p
unfolding iterate
return_first S l h j zero e = e
return_first {s = s} {p = p} S l h j (suc k) e =
    let (a, b) = at S l h k in
    let (c, d) = at S a b j in
    return_first S l h j k (S.once _ _ c a d b (sym (shift s j (iterate s k p)) ∙ e))

-- ---- the other way

-- a test that holds only at the first j of g holds no more than j times
abbrev pub Covered : (ℕ → Bool) → ℕ → ℕ → (ℕ → ℕ) → Type 0
Covered f n j g = (q : ℕ) → q < n → f q ≡ true → (i : ℕ) × (i < j) × (g i ≡ q)

pub cover : (f : ℕ → Bool) (n j : ℕ) (g : ℕ → ℕ) → Covered f n j g → count_below f n ≤ j
unfolding count_below
cover f n zero g c =
    omega (arith, (gap f 0 n (omega arith) (λ q a b. is_false (f q) (λ e. let (i, l, s) = c q b e in omega arith))).count)
cover f n (suc j) g c = go (dec_lt (g j) n) (f (g j)) refl (cover (but f (g j)) n j g) (cover f n j g)
  where
    less : (q : ℕ) → f q ≡ true → (q ≡ g j → ⊥) → q < n → (i : ℕ) × (i < j) × (g i ≡ q)
    less q e d l = let (i, b, s) = c q l e in (i, elim (ℕ_discrete i j) [ yes z ↦ absurd (d (sym s ∙ ap g z)) | no z ↦ omega arith ], s)

    go : Dec (g j < n) → (t : Bool) → f (g j) ≡ t → (Covered (but f (g j)) n j g → count_below (but f (g j)) n ≤ j)
        → (Covered f n j g → count_below f n ≤ j) → count_below f n ≤ suc j
    go (yes l) true e r r' =
        let k = r (λ q a b. less q (both (f q) (not (eqb q (g j))) b).0 (eqb-false q (g j) (not-true _ (both (f q) (not (eqb q (g j))) b).1)) a) in
        omega (arith, count-but f (g j) n l e)
    go (yes l) false e r r' = omega (arith, r' (λ q a b. less q b (λ z. true≢false (sym b ∙ ap f z ∙ e)) a))
    go (no l) t e r r' = omega (arith, r' (λ q a b. less q b (λ z. l (rw z at a)) a))

early : (s : ℕ → ℕ) (p : ℕ) {j : ℕ} → 0 < j → iterate s j p ≡ p → (m : ℕ) → (i : ℕ) × (i < j) × (iterate s i p ≡ iterate s m p)
unfolding iterate
early s p l r zero = (0, l, refl)
early s p {j} l r (suc m) =
    let (i, b, e) = early s p l r m in
    elim (ℕ_discrete (suc i) j) [
      | yes z ↦ (0, l, sym r ∙ ap (λ k. iterate s k p) (sym z) ∙ ap s e)
      | no z ↦ (suc i, omega arith, ap s e)
    ]

-- back at p after j steps, fewer than there are places: not all are reached
pub missed : (f : ℕ → Bool) (n : ℕ) (s : ℕ → ℕ) (p : ℕ) {j : ℕ} → 0 < j → j < count_below f n → iterate s j p ≡ p
    → ((q : ℕ) → q < n → f q ≡ true → (k : ℕ) × (iterate s k p ≡ q)) → ⊥
missed f n s p {j} l c r all =
    let k = cover f n j (λ i. iterate s i p) (λ q a b. let (m, e) = all q a b in let (i, z, d) = early s p l r m in (i, z, d ∙ e)) in
    omega arith
