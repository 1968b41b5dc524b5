-- Peeling: what lies above a level stays joined when the level rises. Assumes nothing.
use Rattle.std.specs.Prelude.{◌≡◌, ◌⊎◌, ℕ, zero, suc, ℤ, pos, ◌+ℤ◌, ◌≤ℤ◌, ◌<ℤ◌}
use Rattle.std.proofs.Common.{◌∙◌, sym, ap, subst, inl, inr, arith}
use Rattle.std.proofs.Math.IntN.{+ℤ_idr}
use Rattle.std.specs.Int.Signed.{≤ℤ_refl}
use Rattle.whole.specs.Solver.{num, ◌⊕◌}
use Rattle.whole.specs.Order.{◌≼◌, ◌≺◌, ◌⇒◌, ◌since◌, hyp, prove, le_or_lt, ≤_trans, ≤-antisym, le_gap, clash, lt→le, eq→le}
use Rattle.space.specs.Vec.{Vec}
use Rattle.space.specs.Vectors.{◌·◌}
use Rattle.solid.specs.Surface.{Surface}
use Rattle.solid.specs.Near.{Near}
use Rattle.solid.specs.Path.{Path, start, go, end, join, map}
use Rattle.solid.proofs.Fan.{fan}
use Rattle.solid.specs.Generic.{Generic}

-- t + n < k says t + (n + 1) ≤ k
pos_suc : (n : ℕ) → pos (suc n) ≡ pos n +ℤ pos 1
pos_suc n = ap pos (omega arith)

drop-one : (t k : ℤ) (n : ℕ) → (t +ℤ pos (suc n)) ≤ℤ k → (t +ℤ pos n) <ℤ k
drop-one t k n h = prove 3 (λ t n k. t ⊕ (n ⊕ num (pos 1)) ≼ k ⇒ λ h. t ⊕ n ≺ k since hyp h) tt t (pos n) k (rw pos_suc at h)

add-one : (t k : ℤ) (n : ℕ) → (t +ℤ pos n) <ℤ k → (t +ℤ pos (suc n)) ≤ℤ k
add-one t k n h = rw pos_suc (prove 3 (λ t n k. t ⊕ n ≺ k ⇒ λ h. t ⊕ (n ⊕ num (pos 1)) ≼ k since hyp h) tt t (pos n) k h)

module _ {P F : Type 0} {M : Surface P F} (N : Near M) {d : Vec ℤ} (G : Generic M d) where
  open M use {Corner, at}

  abbrev Over : ℤ → P → Type 0
  Over t u = t ≤ℤ d · at u

  abbrev Above : ℤ → P → Type 0
  Above t u = t <ℤ d · at u

  -- ---- one level

  module _ (t : ℤ) where
    -- a way over the level t, bent upwards: it leads above t to y, or, where y is at the level, to a corner beside y
    data Bent (x y : P) : Type 0 where
      to : Path Corner (Above t) x y → Bent x y
      beside : {g : F} {z : P} → d · at y ≡ t → Corner g y → Corner g z → Path Corner (Above t) x z → Bent x y

    -- v, at the level, is bypassed
    bypass : {f g : F} {x y v : P} → d · at v ≡ t → Corner f v → Corner f x → Above t x → Corner g v → Corner g y
        → Above t y → Path Corner (Above t) x y
    bypass {v} s fv fx x-up gv gy y-up = map (λ u h. rw s at h) (fan N d v fv fx (rw s x-up) gv gy (rw s y-up))

    further : {g : F} {x y z : P} → Bent x y → Corner g y → Corner g z → Over t z → (d · at z ≤ℤ t) ⊎ Above t z → Bent x z
    further {z} (to p) c e a (inl k) = beside (≤-antisym (d · at z) t k a) e c p
    further (to p) c e a (inr k) = to (go p c e k)
    further {x} {z} (beside s f h p) c e a (inl k) =
        subst (λ z. Bent x z) (G.one_height c e (s ∙ sym (≤-antisym (d · at z) t k a))) (beside s f h p)
    further (beside s f h p) c e a (inr k) = to (join p (bypass s f h (end p) c e k))

    bend : {x y : P} → Path Corner (Over t) x y → Above t x → Bent x y
    bend (start a) h = to (start h)
    bend (go {z} p c e a) h = further (bend p h) c e a (le_or_lt (d · at z) t)

    raise : {x y : P} → Path Corner (Over t) x y → Above t x → Above t y → Path Corner (Above t) x y
    raise p hx hy = elim (bend p hx) [ to q ↦ q | beside s c e q ↦ absurd (clash hy (eq→le s)) ]

  -- ---- all levels up to the lower end

  raise_by : {x y : P} (n : ℕ) (t : ℤ) → Path Corner (Over t) x y → Over (t +ℤ pos n) x → Over (t +ℤ pos n) y
      → Path Corner (Over (t +ℤ pos n)) x y
  raise_by zero t p hx hy = rw +ℤ_idr p
  raise_by {x} {y} (suc n) t p hx hy =
      let kx = drop-one t (d · at x) n hx in
      let ky = drop-one t (d · at y) n hy in
      map (λ u h. add-one t (d · at u) n h) (raise (t +ℤ pos n) (raise_by n t p (lt→le kx) (lt→le ky)) kx ky)

  -- some level that a way does not go below
  floor : {A : P → Type 0} {x y : P} → Path Corner A x y → (t : ℤ) × Path Corner (Over t) x y
  floor {x} (start a) = (d · at x, start (≤ℤ_refl (d · at x)))
  floor (go {z} p c e a) =
      let (t, q) = floor p in
      elim (le_or_lt t (d · at z)) [
        | inl k ↦ (t, go q c e k)
        | inr k ↦ (d · at z, go (map (λ u h. ≤_trans (d · at z) t (d · at u) (lt→le k) h) q) c e (≤ℤ_refl (d · at z)))
      ]

  -- a way nowhere lower than its lower end
  pub ridge : {A : P → Type 0} {x y : P} → Path Corner A x y → (s : ℤ) → s ≤ℤ d · at x → s ≤ℤ d · at y → Path Corner (Over s) x y
  ridge p s hx hy =
      let (t, q) = floor p in
      elim (le_or_lt s t) [
        | inl k ↦ map (λ u h. ≤_trans s t (d · at u) k h) q
        | inr k ↦ let (n, e) = le_gap t s (lt→le k) in rw e (raise_by n t q (rw (← e) hx) (rw (← e) hy))
      ]
