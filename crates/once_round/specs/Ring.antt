-- Theorem 5 of document 001, over points in a ring and a direction along which no edge is level. Assumes nothing.
-- The points are p 0, p 1, .. with the period n, and edge i goes from p i to p (i + 1).
use Rattle.std.specs.Prelude.{◌≡◌, Bool, true, false, not, ◌⊎◌, ℕ, zero, suc, ◌+◌, ◌≤◌, ◌<◌, ℤ, pos, negsuc, ◌+ℤ◌, ◌≤ℤ◌, ◌<ℤ◌}
use Rattle.std.proofs.Common.{sym, ◌∙◌, ap, ap₂, subst, inl, inr, zero-le, eq-or-lt_of_le, le_of_suc-le-suc, not-suc-le-zero, suc-add, zero-add, arith}
use Rattle.std.proofs.Math.Logic.{⊎_swap}
use Rattle.std.specs.Int.Signed.{<ℤ_irrefl}
use Rattle.whole.specs.Solver.{num, ◌⊕◌, ◌≐◌}
use Rattle.whole.specs.Order.{prove, ◌≼◌, ◌≺◌, ◌≃◌, ◌⇒◌, ◌since◌, hyp, by, ◌⊞◌, eq→le, lt→le, clash}
use Rattle.whole.specs.Formula.{exprs}
use Rattle.space.specs.Plane.{Vec, sub, det, subᵒ, detᵒ, solve², opp-sub}
use Rattle.once_round.specs.Sides.{Side, rises_by, falls_by, turn-back, apart, flip, turn, across, peak}
use Rattle.once_round.specs.Hill.{rises, falls, hill}

-- ---- the words

abbrev pub edge : (ℕ → Vec ℤ) → ℕ → Vec ℤ
edge p i = sub (p (suc i)) (p i)

-- how far the point j lies to the left of edge i
abbrev pub lies : (ℕ → Vec ℤ) → ℕ → ℕ → ℤ
lies p i j = det (edge p i) (sub (p j) (p i))

-- every turn is left
abbrev pub Turns : (ℕ → Vec ℤ) → Type 0
Turns p = (i : ℕ) → pos 0 <ℤ det (edge p i) (edge p (suc i))

-- up to the point i + 1, and down from it
pub record Far (e : Vec ℤ) (p : ℕ → Vec ℤ) (i : ℕ) : Type 0 where
  pub up : Side e true (edge p i)
  pub down : Side e false (edge p (suc i))

-- no second point in the round is far
abbrev pub OneFar : Vec ℤ → ℕ → (ℕ → Vec ℤ) → Type 0
OneFar e n p = (i j : ℕ) → i < j → j < i + n → Far e p i → Far e p j → ⊥

-- every point of the round but the ends of edge i lies left of it
abbrev pub Convex : ℕ → (ℕ → Vec ℤ) → Type 0
Convex n p = (i j : ℕ) → suc i < j → j < i + n → pos 0 <ℤ lies p i j

-- ---- what the determinant says

-- from point to point: a step more, and the two ends
lies-next : (a b c d : Vec ℤ) → det (sub b a) (sub d a) ≡ det (sub b a) (sub c a) +ℤ det (sub b a) (sub d c)
unfolding det
lies-next = solve² 4 (λ a b c d. let s = subᵒ exprs in detᵒ exprs (s b a) (s d a) ≐ detᵒ exprs (s b a) (s c a) ⊕ detᵒ exprs (s b a) (s d c)) tt

lies-start : (a b : Vec ℤ) → det (sub b a) (sub a a) ≡ pos 0
unfolding det
lies-start = solve² 2 (λ a b. let s = subᵒ exprs in detᵒ exprs (s b a) (s a a) ≐ num (pos 0)) tt

lies-end : (a b : Vec ℤ) → det (sub b a) (sub b a) ≡ pos 0
unfolding det
lies-end = solve² 2 (λ a b. let s = subᵒ exprs in detᵒ exprs (s b a) (s b a) ≐ num (pos 0)) tt

lies-turn : (a b c : Vec ℤ) → det (sub b a) (sub c a) ≡ det (sub b a) (sub c b)
unfolding det
lies-turn = solve² 3 (λ a b c. let s = subᵒ exprs in detᵒ exprs (s b a) (s c a) ≐ detᵒ exprs (s b a) (s c b)) tt

up_by : (f g h : ℤ) → h ≡ f +ℤ g → h ≤ℤ f → g ≤ℤ pos 0
up_by = prove 3 (λ f g h. h ≃ f ⊕ g ⇒ λ e. h ≼ f ⇒ λ p. g ≼ num (pos 0) since hyp p ⊞ by (num (negsuc 0)) e) tt

down_by : (f g h : ℤ) → h ≡ f +ℤ g → g <ℤ pos 0 → h <ℤ f
down_by = prove 3 (λ f g h. h ≃ f ⊕ g ⇒ λ e. g ≺ num (pos 0) ⇒ λ p. h ≺ f since hyp p ⊞ by (num (pos 1)) e) tt

-- ---- the meaning gives the tests

module _ (e : Vec ℤ) (n : ℕ) (p : ℕ → Vec ℤ) (round : (i : ℕ) → p (i + n) ≡ p i) where
  edge-round : (i : ℕ) → edge p (i + n) ≡ edge p i
  edge-round i = ap₂ sub (ap p (sym (suc-add i n)) ∙ round (suc i)) (round i)

  closed : p n ≡ p 0
  closed = rw zero-add at (round 0)

  closed_edge : edge p n ≡ edge p 0
  closed_edge = rw zero-add at (edge-round 0)

  pub convex_turns : 3 ≤ n → Convex n p → Turns p
  convex_turns l h i = rw (lies-turn (p i) (p (suc i)) (p (suc (suc i)))) at (h i (suc (suc i)) (omega arith) (omega arith))

  -- down from a far point to every other
  highest : 3 ≤ n → Convex n p → (i j : ℕ) → Far e p i → suc i < j → j < suc i + n → Side e false (sub (p j) (p (suc i)))
  highest three h i j f l m = go (eq-or-lt_of_le l) (eq-or-lt_of_le m)
    where
      go : (suc (suc i) ≡ j) ⊎ (suc (suc i) < j) → (suc j ≡ suc i + n) ⊎ (suc j < suc i + n) → Side e false (sub (p j) (p (suc i)))
      go (inl a) b = subst (λ k. Side e false (sub (p k) (p (suc i)))) a f.down
      go (inr a) (inl b) =
          let c : i + n ≡ j = omega arith in
          subst (λ q. Side e false (sub q (p (suc i)))) (sym (round i) ∙ ap p c)
          (subst (Side e false) (opp-sub (p i) (p (suc i))) (flip e true (edge p i) f.up))
      go (inr a) (inr b) =
          peak e (edge p i) (edge p (suc i)) (sub (p j) (p (suc i))) f.up f.down (convex_turns three h i)
          (rw (lies-turn (p i) (p (suc i)) (p j)) at (h i j (omega arith) (omega arith))) (h (suc i) j a (omega arith))

  pub convex_one_far : 3 ≤ n → Convex n p → OneFar e n p
  convex_one_far three h i j l m f g = apart e true (sub (p (suc i)) (p (suc j))) above below
    where
      above : Side e true (sub (p (suc i)) (p (suc j)))
      above = subst (Side e true) (opp-sub (p (suc i)) (p (suc j)))
          (flip e false (sub (p (suc j)) (p (suc i))) (highest three h i (suc j) f (omega arith) (omega arith)))

      below : Side e false (sub (p (suc i)) (p (suc j)))
      below = subst (λ q. Side e false (sub q (p (suc j)))) (round (suc i)) (highest three h j (suc i + n) g (omega arith) (omega arith))

  -- ---- the tests give the meaning

  module _ (slope : (i : ℕ) → Side e true (edge p i) ⊎ Side e false (edge p i)) where
    sides : (s : Bool) (i : ℕ) → Side e s (edge p i) ⊎ Side e (not s) (edge p i)
    sides true i = slope i
    sides false i = ⊎_swap (slope i)

    -- from an edge that leads up to one that leads down there is a far point
    fall : (a b : ℕ) → a ≤ b → Side e true (edge p a) → Side e false (edge p b) → (i : ℕ) × (a ≤ i) × (i < b) × Far e p i
    fall a zero l up down = let c : a ≡ 0 = omega arith in absurd (apart e true (edge p 0) (rw c at up) down)
    fall a (suc b) l up down = elim (eq-or-lt_of_le l) [
      | inl c ↦ absurd (apart e true (edge p (suc b)) (rw c at up) down)
      | inr c ↦ elim (slope b) [
        | inl h ↦ (b, le_of_suc-le-suc c, omega arith, record { up = h; down = down })
        | inr h ↦ let r = fall a b (le_of_suc-le-suc c) up h in (r.0, r.1, omega arith, r.3)
      ]
    ]

    -- the ring closes, so its edges are not all on one side
    mixed : (s : Bool) → 0 < n → ((i : ℕ) → i < n → Side e s (edge p i)) → ⊥
    mixed true some h = <ℤ_irrefl (rw closed at (rises (λ i. det e (p i)) 0 n some (λ i a b. (rises_by e (p i) (p (suc i))).1 (h i b))))
    mixed false some h = <ℤ_irrefl (rw closed at (falls (λ i. det e (p i)) 0 n some (λ i a b. (falls_by e (p i) (p (suc i))).1 (h i b))))

    -- and some point is far
    pub some_far : 0 < n → ((i : ℕ) → Far e p i → ⊥) → ⊥
    some_far some none = elim (slope 0) [
      | inl up ↦ mixed true some (λ t l. elim (slope t) [ inl h ↦ h | inr h ↦ let f = fall 0 t zero-le up h in absurd (none f.0 f.3) ])
      | inr down ↦ mixed false some
          (λ t l. elim (slope t) [
            | inl h ↦ let f = fall t n (omega arith) h (rw (closed_edge) down) in absurd (none f.0 f.3)
            | inr h ↦ h
          ])
    ]

    module _ (one : OneFar e n p) where
      -- the sides change twice in a round, and no more
      alternate : (s : Bool) (i x y z : ℕ) → i ≤ x → x ≤ y → y ≤ z → z ≤ i + n
          → Side e s (edge p i) → Side e (not s) (edge p x) → Side e s (edge p y) → Side e (not s) (edge p z) → ⊥
      alternate true i x y z a b c d hi hx hy hz =
          let f = fall i x a hi hx in
          let g = fall y z c hy hz in
          one f.0 g.0 (omega arith) (omega arith) f.3 g.3
      alternate false i x y z a b c d hi hx hy hz =
          let f = fall x y b hx hy in
          let g = fall z (i + n) d hz (rw (edge-round i) hi) in
          one f.0 g.0 (omega arith) (omega arith) f.3 g.3

      module _ (turns : Turns p) where
        -- edges on one side: all the way along them is a left turn
        chain : (s : Bool) (i j : ℕ) → i < j → ((k : ℕ) → i ≤ k → k ≤ j → Side e s (edge p k)) → pos 0 <ℤ det (edge p i) (edge p j)
        chain s i zero l h = absurd (not-suc-le-zero l)
        chain s i (suc j) l h = elim (eq-or-lt_of_le (le_of_suc-le-suc l)) [
          | inl c ↦ rw c (turns j)
          | inr c ↦
              turn e s (edge p i) (edge p j) (edge p (suc j))
              (h i (omega arith) (omega arith)) (h j (omega arith) (omega arith)) (h (suc j) (omega arith) (omega arith))
              (lt→le (chain s i j c (λ k a b. h k a (omega arith)))) (turns j)
        ]

        module _ (s : Bool) (i : ℕ) (hi : Side e s (edge p i)) where
          -- no edge from l to the end of the round is on the other side
          back : (l : ℕ) → l < i + n → ((t : ℕ) → l ≤ t → t ≤ i + n → Side e (not s) (edge p t) → ⊥)
              → det (edge p i) (edge p l) <ℤ pos 0
          back l m none =
              turn-back (edge p l) (edge p i) (rw (edge-round i) at
              (chain s l (i + n) m (λ t a b. elim (sides s t) [ inl h ↦ h | inr h ↦ absurd (none t a b h) ])))

          -- after a turn from edge i that is not left, every one is right
          after : (k l : ℕ) → suc i ≤ k → k < l → l < i + n → det (edge p i) (edge p k) ≤ℤ pos 0 → det (edge p i) (edge p l) <ℤ pos 0
          after k l a b c h = go (sides s k) (sides s l)
            where
              go : Side e s (edge p k) ⊎ Side e (not s) (edge p k) → Side e s (edge p l) ⊎ Side e (not s) (edge p l)
                  → det (edge p i) (edge p l) <ℤ pos 0
              go (inl hk) hl = back l c (λ t d f ht. clash (chain s i k a (λ x v w. elim (sides s x) [
                | inl hx ↦ hx
                | inr hx ↦ absurd (alternate s i x k t v w (omega arith) f hi hx hk ht)
              ])) h)
              go (inr hk) (inl hl) = back l c (λ t d f ht. alternate s i k l t (omega arith) (omega arith) d f hi hk hl ht)
              go (inr hk) (inr hl) =
                  across e s (edge p i) (edge p k) (edge p l) hi hk hl h (chain (not s) k l b (λ t d f. elim (sides s t) [
                    | inl ht ↦ absurd (alternate s i k t l (omega arith) d f (omega arith) hi hk ht hl)
                    | inr ht ↦ ht
                  ]))

        pub convex : Convex n p
        convex i j l m =
            hill (lies p i) (suc i) (i + n) (eq→le (sym (lies-end (p i) (p (suc i))))) (rw (round i) (eq→le (sym (lies-start (p i) (p (suc i))))))
            (λ k l a b c h. down_by (lies p i l) (det (edge p i) (edge p l)) (lies p i (suc l)) (next l)
            (falling k l a b c (up_by (lies p i k) (det (edge p i) (edge p k)) (lies p i (suc k)) (next k) h)))
            j l m
          where
            next : (k : ℕ) → lies p i (suc k) ≡ lies p i k +ℤ det (edge p i) (edge p k)
            next k = lies-next (p i) (p (suc i)) (p k) (p (suc k))

            falling : (k l : ℕ) → suc i ≤ k → k < l → l < i + n → det (edge p i) (edge p k) ≤ℤ pos 0 → det (edge p i) (edge p l) <ℤ pos 0
            falling = elim (slope i) [ inl h ↦ after true i h | inr h ↦ after false i h ]
