-- Lists one after the other, and the list of a rule's values: what a loop that counts up has appended. Assumes nothing.
use Rattle.std.specs.Prelude.{◌≡◌, length, get_or}
use Rattle.std.proofs.Math.Path.{refl, ap₂}
use mathlib.Core.List.{List, [], ◌∷◌, ◌++◌, append_assoc, append-nil}
use Prim.Native.Nat.{ℕ, zero, suc, ◌+◌, ◌<◌}
use Rattle.std.proofs.Math.Numerals.{add-one}
use Rattle.std.proofs.Math.Decide.{dec_lt}
use native.Mathlib.Omega.{arith}
use Rattle.std.proofs.Math.ListN.{length-append}
use Rattle.std.proofs.lemmas.List.{get_or_at}

-- the lists f 0, .., f (n - 1), one after the other
unfoldable pub joined : {A : Type 0} → (ℕ → List A) → ℕ → List A
joined f zero = []
joined f (suc n) = joined f n ++ f n

-- f 0, .., f (n - 1)
abbrev pub listed : {A : Type 0} → (ℕ → A) → ℕ → List A
listed f n = joined (λ k. f k ∷ []) n

module _ {A : Type 0} where
  pub joined-0 : (f : ℕ → List A) → joined f 0 ≡ []
  unfolding joined
  joined-0 f = refl

  pub joined-more : (f : ℕ → List A) (n : ℕ) → joined f (n + 1) ≡ joined f n ++ f n
  unfolding joined
  joined-more f n = rw add-one

  -- it goes by the first n lists alone
  pub joined_same : (f g : ℕ → List A) (n : ℕ) → ((k : ℕ) → k < n → f k ≡ g k) → joined f n ≡ joined g n
  unfolding joined
  joined_same f g zero h = refl
  joined_same f g (suc n) h = ap₂ (λ (a b : List A). a ++ b) (joined_same f g n (λ k l. h k (omega arith))) (h n (omega arith))

  -- list k among them
  pub joined-split : (f : ℕ → List A) (k n : ℕ) → k < n → (post : List A) × (joined f n ≡ joined f k ++ (f k ++ post))
  unfolding joined
  joined-split f k zero h = absurd (omega arith)
  joined-split f k (suc n) h = elim (dec_lt k n) [
    | yes l ↦ let r = joined-split f k n l in (r.0 ++ f n, rw r.1 (simp append_assoc))
    | no l ↦ let e : k ≡ n = omega arith in ([], rw (e, append-nil))
  ]

  pub length-listed : (f : ℕ → A) (n : ℕ) → length (listed f n) ≡ n
  unfolding joined
  length-listed f zero = refl
  length-listed f (suc n) = simp length-append (omega (arith, length-listed f n))

  pub get_d_listed : (f : ℕ → A) (n k : ℕ) (d : A) → k < n → get_or (listed f n) k d ≡ f k
  get_d_listed f n k d h = let r = joined-split (λ k. f k ∷ []) k n h in rw r.1 (get_or_at (listed f k) (f k) r.0 d k (length-listed f k))
