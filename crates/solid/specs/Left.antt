-- Left turns in a plane, and on which side of the plane a vector lies. Assumes nothing.
use Rattle.std.specs.Prelude.{◌≡◌, ℤ, pos, ◌+ℤ◌, ◌*ℤ◌, ◌≤ℤ◌, ◌<ℤ◌}
use Rattle.std.proofs.Common.{◌∙◌, ap, sym}
use Rattle.std.proofs.Math.IntN.{*ℤ-zero, +ℤ_comm}
use Rattle.whole.specs.Formula.{ints}
use Rattle.whole.specs.Order.{≤-antisym, clash, eq→le, lt→le, not_lt}
use Rattle.whole.specs.Signs.{same-≤, same-<, balance, blend-≤}
use Rattle.space.specs.Vec.{Vec, cross}
use Rattle.space.specs.Vectors.{◌·◌, det, normal_pos, swap-≤, swap-<, aside, aside_0}
use Rattle.space.specs.Algebra.{parallel, in_plane}

-- a and b lie in the plane with normal n, and b is left of a
pub record Left (n a b : Vec ℤ) : Type 0 where
  pub left : pos 0 <ℤ det n a b
  pub on_a : n · a ≡ pos 0
  pub on_b : n · b ≡ pos 0

module _ {n a b : Vec ℤ} (t : Left n a b) where
  pub upright : pos 0 <ℤ n · n
  upright = normal_pos n a b t.left

  -- L2: det a b x is not positive, or negative, where n · x is so
  pub below_≤ : (x : Vec ℤ) → n · x ≤ℤ pos 0 → det a b x ≤ℤ pos 0
  below_≤ x = same-≤ upright t.left (parallel n a b x t.on_a t.on_b)

  pub below_< : (x : Vec ℤ) → n · x <ℤ pos 0 → det a b x <ℤ pos 0
  below_< x = same-< upright t.left (parallel n a b x t.on_a t.on_b)

-- a second normal, around which a is left of b
module _ {n m a b : Vec ℤ} (t : Left n a b) (s : Left m b a) where
  -- nothing lies below both
  pub two_sided : (x : Vec ℤ) → n · x <ℤ pos 0 → m · x ≤ℤ pos 0 → ⊥
  two_sided x nx mx = clash (below_< t x nx) (swap-≤ b a x (below_≤ s x mx))

  -- and the two point in opposite ways
  pub opposed : n · m <ℤ pos 0
  opposed = same-< t.left (upright t) (sym (parallel n a b m t.on_a t.on_b)) (swap-< a b m s.left)

-- U lies between Q and P, so it is their sum with positive factors
module _ {n P Q U : Vec ℤ} (s : Left n Q U) (t : Left n U P) (w : Left n Q P) where
  -- what is positive at neither is not positive at U, and 0 there only if it is 0 at both
  module _ (l : Vec ℤ) (q : l · Q ≤ℤ pos 0) (p : l · P ≤ℤ pos 0) where
    mixed : det n U P *ℤ (l · Q) +ℤ det n Q U *ℤ (l · P) ≡ det n Q P *ℤ (l · U)
    mixed = in_plane n P Q U l (upright s) t.on_b s.on_a s.on_b

    pub between_≤ : l · U ≤ℤ pos 0
    between_≤ = blend-≤ (lt→le t.left) (lt→le s.left) w.left mixed q p

    pub between_0 : pos 0 ≤ℤ l · U → (pos 0 ≤ℤ l · Q) × (pos 0 ≤ℤ l · P)
    between_0 h =
        let e = mixed ∙ ap (λ z. det n Q P *ℤ z) (≤-antisym (l · U) (pos 0) between_≤ h) ∙ *ℤ-zero (det n Q P) in (
          not_lt (λ k. clash (balance t.left s.left e k) p),
          not_lt (λ k. clash (balance s.left t.left (+ℤ_comm (det n Q U *ℤ (l · P)) (det n U P *ℤ (l · Q)) ∙ e) k) q),
        )

  -- so around no m is U left of both: m × U is 0 at U, and would be negative at both
  pub not_left_of_both : {m : Vec ℤ} → Left m Q U → Left m P U → ⊥
  not_left_of_both {m} q p =
      let lq = aside m U Q q.left in
      clash lq (between_0 (cross ints m U) (lt→le lq) (lt→le (aside m U P p.left)) (eq→le (sym (aside_0 m U)))).0
