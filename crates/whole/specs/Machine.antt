-- Rattle's signed arithmetic on bounded numbers wraps nowhere. Assumes nothing.
-- Use: an expression says what a function computes of its parameters, and `Small` bounds these. Then `fits` answers what each operation
-- asks, by its number in the order in which they are computed, and `reads` what is returned. See `space`, proofs/minor/Answers.antt.
use Rattle.std.specs.Prelude.{◌≡◌, refl, List, [], ◌∷◌, Bool, ◌&&◌, ℕ, zero, suc, ◌+◌, ◌*◌, ◌^◌, T, ltb, leb, ℤ, pos, neg_ℤ, nat_abs, ◌+ℤ◌, ◌-ℤ◌, ◌*ℤ◌}
use Rattle.std.proofs.Common.{sym, ◌∙◌, ap, ap₂, subst, arith, leb→le, to_z-of_z}
use Rattle.std.proofs.Math.IntN.{+ℤ_idl}
use Rattle.std.specs.Int.{Width}
use mir.Val.{SFits, hbits, to_z, of_z}
use Rattle.whole.specs.Solver.{Expr, var, num, neg, ◌⊕◌, ◌⊖◌, ◌⊗◌, at, eval}
use Rattle.whole.specs.Order.{and_l, and_r}
use Rattle.whole.specs.Bounds.{◌within◌, Exact, within_+, within--, within_*, within-neg, within-≤, within-fits}

-- ---- what the machine reads: a local holds bits, so the machine reads each operation's result back; and `-x` is `0 - x`

abbrev pub read : Width → ℤ → ℤ
read w z = to_z w (of_z w z)

abbrev pub mach : Width → List ℤ → Expr → ℤ
mach w ρ (var i) = read w (at ρ i)
mach w ρ (num z) = z
mach w ρ (a ⊕ b) = read w (mach w ρ a +ℤ mach w ρ b)
mach w ρ (a ⊖ b) = read w (mach w ρ a -ℤ mach w ρ b)
mach w ρ (a ⊗ b) = read w (mach w ρ a *ℤ mach w ρ b)
mach w ρ (neg a) = read w (pos 0 -ℤ mach w ρ a)

-- the last operation's result, before it is stored
abbrev pub raw : Width → List ℤ → Expr → ℤ
raw w ρ (var i) = at ρ i
raw w ρ (num z) = z
raw w ρ (a ⊕ b) = mach w ρ a +ℤ mach w ρ b
raw w ρ (a ⊖ b) = mach w ρ a -ℤ mach w ρ b
raw w ρ (a ⊗ b) = mach w ρ a *ℤ mach w ρ b
raw w ρ (neg a) = pos 0 -ℤ mach w ρ a

-- an expression's operations in the order in which they are computed, and what comes after
abbrev pub ops : Expr → List Expr → List Expr
ops (var i) es = es
ops (num z) es = es
ops (a ⊕ b) es = ops a (ops b (a ⊕ b ∷ es))
ops (a ⊖ b) es = ops a (ops b (a ⊖ b ∷ es))
ops (a ⊗ b) es = ops a (ops b (a ⊗ b ∷ es))
ops (neg a) es = ops a (neg a ∷ es)

-- operation k's result fits
abbrev pub Fit : Width → List ℤ → List Expr → ℕ → Type 0
Fit w ρ [] k = Unit {0}
Fit w ρ (e ∷ es) zero = SFits w (raw w ρ e)
Fit w ρ (e ∷ es) (suc k) = Fit w ρ es k

-- ---- a bound for each variable, and for an expression of them

abbrev pub bound_at : List ℕ → ℕ → ℕ
bound_at [] i = 0
bound_at (N ∷ Ns) zero = N
bound_at (N ∷ Ns) (suc i) = bound_at Ns i

abbrev pub bound : List ℕ → Expr → ℕ
bound Ns (var i) = bound_at Ns i
bound Ns (num z) = nat_abs z
bound Ns (a ⊕ b) = bound Ns a + bound Ns b
bound Ns (a ⊖ b) = bound Ns a + bound Ns b
bound Ns (a ⊗ b) = bound Ns a * bound Ns b
bound Ns (neg a) = bound Ns a

-- the bounds of an expression and of all its parts are below half of w's power
abbrev pub fit : Width → List ℕ → Expr → Bool
fit w Ns e = ltb (bound Ns e) (2 ^ hbits w)

abbrev pub roomy : Width → List ℕ → Expr → Bool
roomy w Ns (var i) = fit w Ns (var i)
roomy w Ns (num z) = fit w Ns (num z)
roomy w Ns (a ⊕ b) = fit w Ns (a ⊕ b) && (roomy w Ns a && roomy w Ns b)
roomy w Ns (a ⊖ b) = fit w Ns (a ⊖ b) && (roomy w Ns a && roomy w Ns b)
roomy w Ns (a ⊗ b) = fit w Ns (a ⊗ b) && (roomy w Ns a && roomy w Ns b)
roomy w Ns (neg a) = roomy w Ns a

-- n variables with one bound
abbrev pub same : ℕ → ℕ → List ℕ
same zero N = []
same (suc n) N = N ∷ same n N

abbrev pub Each : List ℤ → List ℕ → Type 0
Each [] Ns = Unit {0}
Each (x ∷ ρ) [] = ⊥
Each (x ∷ ρ) (N ∷ Ns) = (x within N) × Each ρ Ns

-- the variables' values are within their bounds
pub record Small (ρ : List ℤ) (Ns : List ℕ) : Type 0 where
  pub each : Each ρ Ns

each_at : (ρ : List ℤ) (Ns : List ℕ) → Each ρ Ns → (i : ℕ) → at ρ i within bound_at Ns i
each_at [] Ns s i = record { abs = omega arith }
each_at (x ∷ ρ) [] s i = absurd s
each_at (x ∷ ρ) (N ∷ Ns) s zero = s.0
each_at (x ∷ ρ) (N ∷ Ns) s (suc i) = each_at ρ Ns s.1 i

module _ (w : Width) {ρ : List ℤ} {Ns : List ℕ} (s : Small ρ Ns) where
  bounded : (e : Expr) → eval ρ e within bound Ns e
  bounded (var i) = each_at ρ Ns s.each i
  bounded (num z) = record { abs = omega arith }
  bounded (a ⊕ b) = within_+ (bounded a) (bounded b)
  bounded (a ⊖ b) = within-- (bounded a) (bounded b)
  bounded (a ⊗ b) = within_* (bounded a) (bounded b)
  bounded (neg a) = within-neg (bounded a)

  both : (e a b : Expr) → T (fit w Ns e && (roomy w Ns a && roomy w Ns b)) → T (fit w Ns e) × T (roomy w Ns a) × T (roomy w Ns b)
  both e a b t =
      let u = and_r (fit w Ns e) (roomy w Ns a && roomy w Ns b) t in
      (and_l (fit w Ns e) (roomy w Ns a && roomy w Ns b) t, and_l (roomy w Ns a) (roomy w Ns b) u, and_r (roomy w Ns a) (roomy w Ns b) u)

  top : (e : Expr) → T (roomy w Ns e) → T (fit w Ns e)
  top (var i) t = t
  top (num z) t = t
  top (a ⊕ b) t = (both (a ⊕ b) a b t).0
  top (a ⊖ b) t = (both (a ⊖ b) a b t).0
  top (a ⊗ b) t = (both (a ⊗ b) a b t).0
  top (neg a) t = top a t

  back : (e : Expr) → T (roomy w Ns e) → {m : ℤ} → m ≡ eval ρ e → read w m ≡ eval ρ e
  back e t p = subst (λ m. read w m ≡ eval ρ e) (sym p) (to_z-of_z (within-fits (bounded e) (top e t)))

  -- what the machine reads is the value
  pub reads : (e : Expr) → T (roomy w Ns e) → mach w ρ e ≡ eval ρ e
  reads (var i) t = back (var i) t refl
  reads (num z) t = refl
  reads (a ⊕ b) t = let (_, p, q) = both (a ⊕ b) a b t in back (a ⊕ b) t (ap₂ ◌+ℤ◌ (reads a p) (reads b q))
  reads (a ⊖ b) t = let (_, p, q) = both (a ⊖ b) a b t in back (a ⊖ b) t (ap₂ ◌-ℤ◌ (reads a p) (reads b q))
  reads (a ⊗ b) t = let (_, p, q) = both (a ⊗ b) a b t in back (a ⊗ b) t (ap₂ ◌*ℤ◌ (reads a p) (reads b q))
  reads (neg a) t = back (neg a) t (+ℤ_idl (neg_ℤ (mach w ρ a)) ∙ ap neg_ℤ (reads a t))

  raw-is : (e : Expr) → T (roomy w Ns e) → raw w ρ e ≡ eval ρ e
  raw-is (var i) t = refl
  raw-is (num z) t = refl
  raw-is (a ⊕ b) t = let (_, p, q) = both (a ⊕ b) a b t in ap₂ ◌+ℤ◌ (reads a p) (reads b q)
  raw-is (a ⊖ b) t = let (_, p, q) = both (a ⊖ b) a b t in ap₂ ◌-ℤ◌ (reads a p) (reads b q)
  raw-is (a ⊗ b) t = let (_, p, q) = both (a ⊗ b) a b t in ap₂ ◌*ℤ◌ (reads a p) (reads b q)
  raw-is (neg a) t = +ℤ_idl (neg_ℤ (mach w ρ a)) ∙ ap neg_ℤ (reads a t)

  last_fits : (e : Expr) → T (roomy w Ns e) → SFits w (raw w ρ e)
  last_fits e t = subst (λ m. SFits w m) (sym (raw-is e t)) (within-fits (bounded e) (top e t))

  -- one operation, and those after it
  then : (e : Expr) → T (roomy w Ns e) → (es : List Expr) → ((k : ℕ) → Fit w ρ es k) → (k : ℕ) → Fit w ρ (e ∷ es) k
  then e t es h zero = last_fits e t
  then e t es h (suc k) = h k

  all : (e : Expr) → T (roomy w Ns e) → (es : List Expr) → ((k : ℕ) → Fit w ρ es k) → (k : ℕ) → Fit w ρ (ops e es) k
  all (var i) t es h = h
  all (num z) t es h = h
  all (a ⊕ b) t es h = let (_, p, q) = both (a ⊕ b) a b t in all a p (ops b (a ⊕ b ∷ es)) (all b q (a ⊕ b ∷ es) (then (a ⊕ b) t es h))
  all (a ⊖ b) t es h = let (_, p, q) = both (a ⊖ b) a b t in all a p (ops b (a ⊖ b ∷ es)) (all b q (a ⊖ b ∷ es) (then (a ⊖ b) t es h))
  all (a ⊗ b) t es h = let (_, p, q) = both (a ⊗ b) a b t in all a p (ops b (a ⊗ b ∷ es)) (all b q (a ⊗ b ∷ es) (then (a ⊗ b) t es h))
  all (neg a) t es h = all a t (neg a ∷ es) (then (neg a) t es h)

  -- and each operation's result fits
  pub fits : (e : Expr) → T (roomy w Ns e) → (k : ℕ) → Fit w ρ (ops e []) k
  fits e t = all e t [] (λ k. tt)

  pub computes : (e : Expr) → T (roomy w Ns e) → Exact (bound Ns e) (eval ρ e) (mach w ρ e)
  computes e t = record { is = reads e t; small = subst (λ m. m within bound Ns e) (sym (reads e t)) (bounded e) }

-- a parameter's or a result's bits, read back
pub read_is : {z : ℤ} {N : ℕ} (w : Width) → z within N → T (ltb N (2 ^ hbits w)) → read w z ≡ z
read_is w h t = to_z-of_z (within-fits h t)

pub read-within : {z : ℤ} {N : ℕ} (w : Width) → z within N → T (ltb N (2 ^ hbits w)) → read w z within N
read-within {z} {N} w h t = subst (λ m. m within N) (sym (read_is w h t)) h

-- a call's result, read back for the next
pub read-exact : {r z : ℤ} {N : ℕ} (w : Width) → Exact N z r → T (ltb N (2 ^ hbits w)) → read w r ≡ z
read-exact w h t = read_is w h.small t ∙ h.is

pub exact_read : {r z : ℤ} {N : ℕ} (w : Width) → Exact N z r → T (ltb N (2 ^ hbits w)) → Exact N z (read w r)
exact_read w h t = record { is = read-exact w h t; small = read-within w h.small t }

pub read_small : {r z : ℤ} {N M : ℕ} (w : Width) → Exact N z r → T (ltb N (2 ^ hbits w)) → T (leb N M) → read w r within M
read_small {N = N} {M} w h t l = within-≤ (read-within w h.small t) (leb→le N M l)
