-- Flooding round by round: what is reached from 0 by arcs, n of them, from a p to b p, among m. As many rounds as there are suffice. Assumes nothing.
use Rattle.std.specs.Prelude.{◌≡◌, refl, ◌⊎◌, Bool, false, not, ◌&&◌, ◌||◌, List, [], ◌∷◌, get_or}
use Rattle.std.proofs.Common.{sym, ◌∙◌, true≢false, arith}
use Rattle.std.proofs.Math.Logic.{inl, inr}
use Rattle.std.proofs.Math.Bool.{true, or-true}
use Prim.Native.Nat.{ℕ, zero, suc, ◌≤◌, ◌<◌}
use Rattle.std.proofs.Math.Decide.{dec_lt}
use Rattle.std.proofs.Math.Dec.{eqb}
use borrow.Author.Tests.{eqb-true, eq-eqb, ltb-true, not-true, not-false}
use Rattle.whole.specs.First.{first_below, any_below, any_is, first_holds, never}
use Rattle.whole.specs.Count.{count_below, count-but, count-le, count_less, both}

-- a table of the values of f below m
unfoldable pub tab : (ℕ → Bool) → ℕ → List Bool
tab f zero = []
tab f (suc m) = f zero ∷ tab (λ k. f (suc k)) m

abbrev pub at : List Bool → ℕ → Bool
at l g = get_or l g false

at-tab : (f : ℕ → Bool) (m g : ℕ) → g < m → at (tab f m) g ≡ f g
unfolding tab
at-tab f zero g l = absurd (omega arith)
at-tab f (suc m) zero l = refl
at-tab f (suc m) (suc g) l = at-tab (λ k. f (suc k)) m g (omega arith)

past_tab : (f : ℕ → Bool) (m g : ℕ) → m ≤ g → at (tab f m) g ≡ false
unfolding tab
past_tab f zero g l = refl
past_tab f (suc m) zero l = absurd (omega arith)
past_tab f (suc m) (suc g) l = past_tab (λ k. f (suc k)) m g (omega arith)

-- an arc from a marked one to g
abbrev pub arc_to : (ℕ → ℕ) → (ℕ → ℕ) → List Bool → ℕ → ℕ → Bool
arc_to a b l g p = at l (a p) && eqb (b p) g

abbrev pub spread : ℕ → (ℕ → ℕ) → (ℕ → ℕ) → List Bool → ℕ → Bool
spread n a b l g = at l g || any_below (arc_to a b l g) n

unfoldable pub rounds : ℕ → ℕ → (ℕ → ℕ) → (ℕ → ℕ) → ℕ → List Bool
rounds n m a b zero = tab (λ g. eqb g 0) m
rounds n m a b (suc k) = tab (spread n a b (rounds n m a b k)) m

-- reached from 0 by arcs
pub data Reached (n : ℕ) (a b : ℕ → ℕ) : ℕ → Type 0 where
  first : Reached n a b 0
  arc : {p : ℕ} → Reached n a b (a p) → p < n → Reached n a b (b p)

-- ---- small laws

or_cases : (x y : Bool) → (x || y) ≡ true → (x ≡ true) ⊎ (y ≡ true)
or_cases true y e = inl refl
or_cases false y e = inr e

module _ (n m : ℕ) (a b : ℕ → ℕ) (ends : (p : ℕ) → p < n → b p < m) where
  R : ℕ → List Bool
  R k = rounds n m a b k

  -- a mark is below m
  inside : (k g : ℕ) → at (R k) g ≡ true → g < m
  unfolding rounds R
  inside zero g e = elim (dec_lt g m) [ yes l ↦ l | no l ↦ absurd (true≢false (sym e ∙ past_tab _ m g (omega arith))) ]
  inside (suc k) g e = elim (dec_lt g m) [ yes l ↦ l | no l ↦ absurd (true≢false (sym e ∙ past_tab _ m g (omega arith))) ]

  stay : (k g : ℕ) → at (R k) g ≡ true → at (R (suc k)) g ≡ true
  unfolding rounds R
  stay k g e = at-tab (spread n a b (R k)) m g (inside k g e) ∙ rw e

  move : (k p : ℕ) → p < n → at (R k) (a p) ≡ true → at (R (suc k)) (b p) ≡ true
  unfolding rounds R
  move k p l e =
      at-tab (spread n a b (R k)) m (b p) (ends p l) ∙ rw (any_is (arc_to a b (R k) (b p)) n p l (rw (e, eq-eqb (b p) (b p) refl)), or-true)

  -- how a mark came
  came : (k g : ℕ) → at (R (suc k)) g ≡ true → (at (R k) g ≡ true) ⊎ ((p : ℕ) × (p < n) × (at (R k) (a p) ≡ true) × (b p ≡ g))
  unfolding rounds R
  came k g e = elim (or_cases (at (R k) g) (any_below (arc_to a b (R k) g) n) (sym (at-tab (spread n a b (R k)) m g (inside (suc k) g e)) ∙ e)) [
    | inl x ↦ inl x
    | inr y ↦
        let p = first_below (arc_to a b (R k) g) n in
        let l : p < n = ltb-true _ _ y in
        let h = both (at (R k) (a p)) (eqb (b p) g) (first_holds (arc_to a b (R k) g) n l) in
        inr (p, l, h.0, eqb-true _ _ h.1)
  ]

  sound : (k g : ℕ) → at (R k) g ≡ true → Reached n a b g
  unfolding rounds R
  sound zero g e = let z : g ≡ 0 = eqb-true _ _ (sym (at-tab (λ g. eqb g 0) m g (inside zero g e)) ∙ e) in rw z first
  sound (suc k) g e = elim (came k g e) [
    | inl x ↦ sound k g x
    | inr (p, l, x, z) ↦ rw z at (arc (sound k (a p) x) l)
  ]

  Closed : ℕ → Type 0
  Closed k = (p : ℕ) → p < n → at (R k) (a p) ≡ true → at (R k) (b p) ≡ true

  closed_on : (k : ℕ) → Closed k → Closed (suc k)
  unfolding Closed
  closed_on k c p l e = elim (came k (a p) e) [
    | inl x ↦ stay k (b p) (c p l x)
    | inr (q, o, x, z) ↦ stay k (b p) (c p l (rw z at (c q o x)))
  ]

  -- an arc that leads out
  out : ℕ → ℕ → Bool
  out k p = at (R k) (a p) && not (at (R k) (b p))

  shut : (k p : ℕ) → at (R k) (a p) ≡ true → out k p ≡ false → at (R k) (b p) ≡ true
  unfolding out
  shut k p e h = not-false _ (rw e at h)

  grown : (k p : ℕ) → p < n → out k p ≡ true → count_below (at (R k)) m < count_below (at (R (suc k))) m
  unfolding out
  grown k p l e =
      let h = both (at (R k) (a p)) (not (at (R k) (b p))) e in
      count_less (at (R k)) (at (R (suc k))) m (b p) (λ q s. stay k q) (ends p l) (not-true _ h.1) (move k p l h.0)

  at_zero : 0 < m → at (R 0) 0 ≡ true
  unfolding rounds R
  at_zero z = at-tab (λ g. eqb g 0) m 0 z

  progress : 0 < m → (k : ℕ) → (k < count_below (at (R k)) m) ⊎ Closed k
  unfolding Closed
  progress z zero = inl (omega (arith, count-but (at (R 0)) 0 m z (at_zero z)))
  progress z (suc k) = elim (dec_lt (first_below (out k) n) n) [
    | yes l ↦ elim (progress z k) [
      | inl c ↦ inl (omega (arith, grown k (first_below (out k) n) l (first_holds (out k) n l)))
      | inr c ↦ inr (closed_on k c)
    ]
    | no l ↦ inr (closed_on k (λ p o e. shut k p e (never (out k) n (omega arith) p o)))
  ]

  -- ---- after m rounds

  pub only : {g : ℕ} → at (rounds n m a b m) g ≡ true → Reached n a b g
  unfolding R
  only {g} e = sound m g e

  pub all : 0 < m → {g : ℕ} → Reached n a b g → at (rounds n m a b m) g ≡ true
  unfolding R Closed
  all z first = zero-stays m
    where
      zero-stays : (k : ℕ) → at (R k) 0 ≡ true
      zero-stays zero = at_zero z
      zero-stays (suc k) = stay k 0 (zero-stays k)
  all z (arc {p} r l) = elim (progress z m) [
    | inl c ↦ absurd (omega (arith, count-le (at (R m)) m))
    | inr c ↦ c p l (all z r)
  ]
