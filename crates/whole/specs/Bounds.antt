-- How large a sum, a difference and a product of whole numbers are. Assumes nothing.
use Rattle.std.specs.Prelude.{◌≡◌, refl, Bool, false, cond, ◌||◌, ℕ, zero, suc, ◌+◌, ◌-◌, ◌*◌, ◌^◌, ◌≤◌, T, ltb, ℤ, pos, negsuc, neg_ℤ, nat_abs, ◌+ℤ◌}
use Rattle.std.specs.Prelude.{◌-ℤ◌, ◌*ℤ◌, ◌≤ℤ◌}
use Rattle.std.proofs.Common.{le_trans, le_of_eq, mul-le-mul, arith, ltb→lt, leb→le, le→leb}
use Rattle.std.specs.Int.Signed.{mag, lt_z, le_z_yes}
use Rattle.std.specs.Int.{Width}
use mir.Val.{SFits, hbits}
use Rattle.whole.specs.Order.{cond_ind, lt_z_false, false_lt_z}
use Rattle.whole.specs.Count.{neither}

-- ---- the absolute value

pub abs_neg : (x : ℤ) → nat_abs (neg_ℤ x) ≡ nat_abs x
abs_neg (pos zero) = refl
abs_neg (pos (suc n)) = refl
abs_neg (negsuc n) = refl

pub abs-* : (x y : ℤ) → nat_abs (x *ℤ y) ≡ nat_abs x * nat_abs y
abs-* (pos a) (pos b) = refl
abs-* (pos a) (negsuc b) = abs_neg (pos (a * suc b))
abs-* (negsuc a) (pos b) = abs_neg (pos (suc a * b))
abs-* (negsuc a) (negsuc b) = refl

-- a − (b + 1)
abs-sub : (a b : ℕ) → nat_abs (cond (ltb a (suc b)) (negsuc (suc b - suc a)) (pos (a - suc b))) ≤ a + suc b
abs-sub a b = cond_ind (ltb a (suc b)) (negsuc (suc b - suc a)) (pos (a - suc b)) (λ z. nat_abs z ≤ a + suc b)
    (λ t. omega arith) (λ t. omega arith)

pub abs-+ : (x y : ℤ) → nat_abs (x +ℤ y) ≤ nat_abs x + nat_abs y
abs-+ (pos a) (pos b) = omega arith
abs-+ (pos a) (negsuc b) = abs-sub a b
abs-+ (negsuc a) (pos b) = omega (arith, abs-sub b a)
abs-+ (negsuc a) (negsuc b) = omega arith

-- |z| ≤ N, as a record, so that z and N can be inferred from a hypothesis
infix 50 ◌within◌
pub record ◌within◌ (z : ℤ) (N : ℕ) : Type 0 where
  pub abs : nat_abs z ≤ N

-- what a function that computes z in machine numbers promises of its result r
pub record Exact (N : ℕ) (z r : ℤ) : Type 0 where
  pub is : r ≡ z
  pub small : r within N

module _ {x y : ℤ} {A B : ℕ} (h : x within A) (k : y within B) where
  pub within_+ : (x +ℤ y) within (A + B)
  within_+ = record { abs = omega (arith, abs-+ x y) }

  pub within-- : (x -ℤ y) within (A + B)
  within-- = record { abs = omega (arith, abs-+ x (neg_ℤ y), abs_neg y) }

  pub within_* : (x *ℤ y) within (A * B)
  within_* = record { abs = le_trans (le_of_eq (abs-* x y)) (mul-le-mul h.abs k.abs) }

pub within-neg : {x : ℤ} {A : ℕ} → x within A → neg_ℤ x within A
within-neg {x} h = record { abs = omega (arith, abs_neg x) }

pub within-≤ : {z : ℤ} {A B : ℕ} → z within A → A ≤ B → z within B
within-≤ h k = record { abs = omega arith }

-- between -N and N
pub within-between : (z : ℤ) (N : ℕ) → neg_ℤ (pos N) ≤ℤ z → z ≤ℤ pos N → z within N
within-between (pos n) N h k = record { abs = leb→le n N k.le }
within-between (negsuc n) zero h k = absurd h.le
within-between (negsuc n) (suc m) h k = record { abs = omega (arith, leb→le n m h.le) }

pub within-high : {z : ℤ} {N : ℕ} → z within N → z ≤ℤ pos N
within-high {z = pos n} {N} h = le_z_yes (le→leb n N h.abs)
within-high {z = negsuc n} h = le_z_yes tt

pub within_low : {z : ℤ} {N : ℕ} → z within N → neg_ℤ (pos N) ≤ℤ z
within_low {z = pos n} {N = zero} h = le_z_yes (le→leb 0 n (omega arith))
within_low {z = pos n} {N = suc N} h = le_z_yes tt
within_low {z = negsuc n} {N = zero} h = absurd (omega (arith, h.abs))
within_low {z = negsuc n} {N = suc N} h = le_z_yes (le→leb n N (omega (arith, h.abs)))

-- a test of it: z is outside -N to N
abbrev pub exceeds : ℕ → ℤ → Bool
exceeds N z = lt_z z (neg_ℤ (pos N)) || lt_z (pos N) z

pub within-exceeds : (N : ℕ) (z : ℤ) → exceeds N z ≡ false → z within N
within-exceeds N z e =
    let (low, high) = neither (lt_z z (neg_ℤ (pos N))) (lt_z (pos N) z) e in
    within-between z N (lt_z_false _ _ low) (lt_z_false _ _ high)

pub not_exceeds : {z : ℤ} {N : ℕ} → z within N → exceeds N z ≡ false
not_exceeds h = rw (false_lt_z (within_low h), false_lt_z (within-high h))

mag_abs : (z : ℤ) → mag z ≤ nat_abs z
mag_abs (pos n) = omega arith
mag_abs (negsuc n) = omega arith

pub within-fits : {w : Width} {z : ℤ} {N : ℕ} → z within N → T (ltb N (2 ^ hbits w)) → SFits w z
within-fits {w} {z} {N} h t = record { sfits = omega (arith, mag_abs z, ltb→lt N (2 ^ hbits w) t) }
