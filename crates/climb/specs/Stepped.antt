-- What a step does: it moves to a higher neighbour, or no neighbour is higher. Assumes nothing.
use Rattle.std.specs.Prelude.{◌≡◌, Bool, true, false, cond, not, ◌&&◌, List, eqb, ℤ, ◌≤ℤ◌, ◌<ℤ◌, length}
use Rattle.std.proofs.Math.Path.{refl}
use Rattle.std.proofs.Common.{sym, ap, ◌∙◌, inl, inr, true≢false, arith, ltb-true, eqb-true}
use Prim.Native.Nat.{ℕ, zero, suc, ◌+◌, ◌<◌}
use Rattle.std.proofs.Math.Decide.{ℕ_discrete}
use Rattle.std.specs.Int.Signed.{lt_z}
use Rattle.std.proofs.lemmas.Bool.{not-true}
use Rattle.whole.specs.Order.{lt→le, eq→le, ≤_trans, clash, le_or_lt, lt_z_true, true_lt_z, lt_z_false, false_lt_z}
use Rattle.whole.specs.First.{first_below, any_below, Nowhere, first_holds, before-first, pick-lowest, any_none, any_false}
use Rattle.whole.specs.Count.{both, is_false}
use Rattle.points.specs.Points.{vertices, Vertex}
use Rattle.tables.specs.Tables.{from, to}
use Rattle.edges.specs.Chains.{leaves}
use Rattle.edges.specs.Edge.{is_edge}
use Rattle.height.specs.Height.{height, Placed, placed-is}
use Rattle.climb.specs.Move.{is_neighbour, is_higher, is_highest, move_to, move_up, step}
use Rattle.climb.specs.Best.{Beats, higher, level, Best}
use Rattle.direction.specs.declared.Direction.{Direction}
use Rattle.climb.specs.declared.Standing.{Standing}
use Rattle.height.specs.declared.Spot.{Spot}

-- u is the end of an edge that leaves v
pub record Joined (corners begins : List ℕ) (v u : ℕ) : Type 0 where
  pub place : ℕ
  pub below : place < length corners
  pub leaves : from corners place ≡ v
  pub ends : to corners begins place ≡ u

pub joined : (corners begins : List ℕ) (v u : ℕ) → is_neighbour corners begins v u ≡ true → Joined corners begins v u
joined corners begins v u e =
    let p = first_below (is_edge corners begins v u) (length corners) in
    let l = ltb-true p (length corners) e in
    let h = both (leaves corners v p) (eqb (to corners begins p) u) (first_holds (is_edge corners begins v u) (length corners) l) in
    record { place = p; below = l; leaves = eqb-true _ _ h.0; ends = eqb-true _ _ h.1 }

-- where a test holds below n, and h is greatest
data Greatest (f : ℕ → Bool) (h : ℕ → ℤ) (n : ℕ) : Type 0 where
  nowhere : Nowhere f n → Greatest f h n
  at : (u : ℕ) → u < n → f u ≡ true → ((w : ℕ) → w < n → f w ≡ true → h w ≤ℤ h u) → Greatest f h n

greatest : (f : ℕ → Bool) (h : ℕ → ℤ) (n : ℕ) → Greatest f h n
greatest f h zero = nowhere (λ w l. absurd (omega arith))
greatest f h (suc n) = go (f n) refl (greatest f h n)
  where
    go : (t : Bool) → f n ≡ t → Greatest f h n → Greatest f h (suc n)
    go false e (nowhere none) = nowhere (λ w l. elim (ℕ_discrete w n) [ yes z ↦ rw z e | no z ↦ none w (omega arith) ])
    go false e (at u l k top) = at u (omega arith) k (λ w m x. elim (ℕ_discrete w n) [
      | yes z ↦ absurd (true≢false (sym x ∙ ap f z ∙ e))
      | no z ↦ top w (omega arith) x
    ])
    go true e (nowhere none) = at n (omega arith) e (λ w m x. elim (ℕ_discrete w n) [
      | yes z ↦ eq→le (ap h z)
      | no z ↦ absurd (true≢false (sym x ∙ none w (omega arith)))
    ])
    go true e (at u l k top) = elim (le_or_lt (h n) (h u)) [
      | inl y ↦ at u (omega arith) k (λ w m x. elim (ℕ_discrete w n) [ yes z ↦ rw z y | no z ↦ top w (omega arith) x ])
      | inr y ↦ at n (omega arith) e (λ w m x. elim (ℕ_discrete w n) [ yes z ↦ eq→le (ap h z) | no z ↦ ≤_trans _ _ _ (top w (omega arith) x) (lt→le y) ])
    ]

module _ (points : List ℤ) (corners begins : List ℕ) (d : Direction) where
  abbrev h : ℕ → ℤ
  h = height points d

  abbrev near : ℕ → ℕ → Bool
  near = is_neighbour corners begins

  abbrev above : ℕ → ℕ → ℕ → Bool
  above v u w = near v w && is_higher points d w u

  -- ---- the highest neighbour

  -- a neighbour of v, and no vertex that is a neighbour of v is higher
  pub record Highest (v u : ℕ) : Type 0 where
    pub neighbour : near v u ≡ true
    pub top : (w : ℕ) → Vertex points w → near v w ≡ true → h w ≤ℤ h u

  -- "the highest neighbour, the lowest number among equals"
  pub record Chosen (v u : ℕ) : Type 0 where
    pub highest : Highest v u
    pub lowest : (k : ℕ) → k < u → Highest v k → ⊥

  highest_is : {v u : ℕ} → Highest v u → is_highest points corners begins d v u ≡ true
  highest_is {v} {u} H = rw (
    H.neighbour,
    any_none (above v u) (vertices points) (λ w l. is_false _ (λ e.
        let (n, k) = both (near v w) (is_higher points d w u) e in
        clash (lt_z_true _ _ k) (H.top w l n))),
  )

  is_highest_lem : (v u : ℕ) → is_highest points corners begins d v u ≡ true → Highest v u
  is_highest_lem v u e =
      let (n, k) = both (near v u) (not (any_below (above v u) (vertices points))) e in
      record {
        neighbour = n;
        top = λ w l m. lt_z_false _ _ (rw m at (any_false (above v u) (vertices points) (not-true _ k) w l));
      }

module _ (points : List ℤ) (corners begins : List ℕ) (s : Standing) where
  abbrev d : Direction
  d = s.direction

  abbrev v : ℕ
  v = s.spot.vertex

  abbrev tall : ℕ → ℤ
  tall = height points d

  abbrev is_top : ℕ → Bool
  is_top = is_highest points corners begins d v

  abbrev joins : ℕ → Bool
  joins = is_neighbour corners begins v

  -- ---- the step, where the search along the chain found the best of the present vertex and its neighbours

  module _ {b : Spot} (A : Placed points d s.spot) (B : Best points corners begins d v 0 b) where
    beaten : (w : ℕ) → joins w ≡ true → Beats tall b.vertex w
    beaten w e = let j = joined corners begins v w e in rw j.ends at (B.passed j.place (omega arith) j.below j.leaves)

    not_higher : (w : ℕ) → joins w ≡ true → tall w ≤ℤ tall b.vertex
    not_higher w e = elim (beaten w e) [ higher l ↦ lt→le l | level z l ↦ eq→le z ]

    pub best_moves : lt_z s.spot.height b.height ≡ true → record { direction = d; spot = b; moves = s.moves + 1 } ≡ step points corners begins s
    unfolding step
    best_moves e =
        rw (placed-is B.placed) (rw (true_lt_z l) at (pick-lowest (λ u. move_up points u s) s
        (record { below = B.placed.vertex; holds = found; before = lowest })))
      where
        l : tall v <ℤ tall b.vertex
        l = lt_z_true _ _ (rw (A.high, B.placed.high) at e)

        best : Highest points corners begins d v b.vertex
        best = record {
          neighbour = elim B.joined [ inl e ↦ absurd (clash l (eq→le (ap tall e))) | inr e ↦ e ];
          top = λ w k. not_higher w;
        }

        found : is_top b.vertex ≡ true
        found = highest_is points corners begins d best

        lowest : Nowhere is_top b.vertex
        lowest k m = is_false _ (λ e.
            let H = is_highest_lem points corners begins d v k e in
            elim (beaten k H.neighbour) [
              | higher x ↦ clash x (H.top b.vertex B.placed.vertex best.neighbour)
              | level x y ↦ omega arith
            ])

    pub best_stays : lt_z s.spot.height b.height ≡ false → s ≡ step points corners begins s
    unfolding step
    best_stays i = go (any_below is_top (vertices points)) refl
      where
        u : ℕ
        u = first_below is_top (vertices points)

        go : (t : Bool) → any_below is_top (vertices points) ≡ t → s ≡ cond t (move_up points u s) s
        go true e =
            let H = is_highest_lem points corners begins d v u (first_holds _ (vertices points) (ltb-true _ _ e)) in
            rw (false_lt_z (≤_trans _ _ _ (not_higher u H.neighbour) (lt_z_false _ _ (rw (A.high, B.placed.high) at i))))
        go false e = refl

-- ---- what a step does, in words

pub data Stepped (points : List ℤ) (corners begins : List ℕ) (d : Direction) (s r : Standing) : Type 0 where
  moved : (u : ℕ) → Vertex points u → Chosen points corners begins d s.spot.vertex u → height points d s.spot.vertex <ℤ height points d u
      → r ≡ move_to points u s → Stepped points corners begins d s r
  stayed : ((w : ℕ) → Vertex points w → is_neighbour corners begins s.spot.vertex w ≡ true → height points d w ≤ℤ height points d s.spot.vertex)
      → r ≡ s → Stepped points corners begins d s r

module _ (points : List ℤ) (corners begins : List ℕ) where
  pub stepped : (s : Standing) → Stepped points corners begins s.direction s (step points corners begins s)
  unfolding step
  stepped s = go (any_below f n) refl
    where
      d : Direction
      d = s.direction

      v : ℕ
      v = s.spot.vertex

      f : ℕ → Bool
      f = is_highest points corners begins d v

      n : ℕ
      n = vertices points

      u : ℕ
      u = first_below f n

      pick : (t : Bool) → is_higher points d u v ≡ t → Vertex points u → Chosen points corners begins d v u
          → Stepped points corners begins d s (cond t (move_to points u s) s)
      pick true e l C = moved u l C (lt_z_true _ _ e) refl
      pick false e l C = stayed (λ w k m. ≤_trans _ _ _ (C.highest.top w k m) (lt_z_false _ _ e)) refl

      go : (t : Bool) → any_below f n ≡ t → Stepped points corners begins d s (cond t (move_up points u s) s)
      go true e =
          let l = ltb-true u n e in
          pick (is_higher points d u v) refl l (record {
            highest = is_highest_lem points corners begins d v u (first_holds f n l);
            lowest = λ k b H. true≢false (sym (highest_is points corners begins d H) ∙ before-first f n k b);
          })
      go false e = stayed (λ w k m. elim (greatest (is_neighbour corners begins v) (height points d) n) [
        | nowhere none ↦ absurd (true≢false (sym m ∙ none w k))
        | at x l i top ↦ absurd (true≢false (sym (highest_is points corners begins d (record { neighbour = i; top = top })) ∙ any_false f n e x l))
      ]) refl

  -- a walk keeps its direction
  pub step-direction : (s : Standing) → (step points corners begins s).direction ≡ s.direction
  step-direction s = elim (stepped s) [ moved u v c up e ↦ ap (λ r. r.direction) e | stayed h e ↦ ap (λ r. r.direction) e ]
