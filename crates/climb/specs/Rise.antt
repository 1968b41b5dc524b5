-- A walk rises at each move, so it moves fewer times than there are vertices, and stops. Assumes nothing.
use Rattle.std.specs.Prelude.{◌≡◌, true, false, ℤ, ◌≤ℤ◌, ◌<ℤ◌, length, get_or, set, drop}
use Rattle.std.proofs.Math.Path.{refl, sym}
use Rattle.std.proofs.Common.{ap, ◌∙◌, arith, drop-cons}
use mathlib.Core.List.{List, [], ◌∷◌, ◌++◌}
use Prim.Native.Nat.{ℕ, zero, suc, ◌+◌, ◌-◌, ◌≤◌, ◌<◌}
use Rattle.std.proofs.Math.Nat.{add-zero, add-suc}
use Rattle.std.proofs.Math.Decide.{ℕ_discrete}
use Rattle.std.proofs.Math.ListN.{length-append, get_or-append}
use Rattle.std.proofs.lemmas.List.{set_at, get_or_at}
use Rattle.std.proofs.Math.Seq.{append_snoc}
use Rattle.whole.specs.Order.{eq→le, <-trans, lt_z_true, true_lt_z, false_lt_z}
use Rattle.whole.specs.Count.{count_below, count-le, count_less}
use Rattle.points.specs.Points.{vertices, Vertex}
use Rattle.height.specs.Height.{height, Placed}
use Rattle.climb.specs.Move.{is_neighbour, is_higher, move_to, step}
use Rattle.climb.specs.Stepped.{Chosen, Stepped, moved, stayed, stepped, step-direction}
use Rattle.climb.specs.Course.{after, finish, stood}
use Rattle.direction.specs.declared.Direction.{Direction}
use Rattle.climb.specs.declared.Standing.{Standing}

module _ (points : List ℤ) (d : Direction) where
  abbrev h : ℕ → ℤ
  h = height points d

  -- how many vertices are higher than v
  unfoldable pub rank : ℕ → ℕ
  rank v = count_below (λ u. is_higher points d u v) (vertices points)

  not_above_itself : (v : ℕ) → is_higher points d v v ≡ false
  not_above_itself v = false_lt_z {a = h v} {b = h v} (eq→le refl)

  rank-few : {v : ℕ} → Vertex points v → rank v < vertices points
  unfolding rank
  rank-few {v} l =
      let n = vertices points in
      omega (arith, count_less (λ u. is_higher points d u v) (λ u. true) n v (λ p k e. refl) l (not_above_itself v) refl, count-le (λ u. true) n)

  rank_falls : (v : ℕ) {u : ℕ} → Vertex points u → h v <ℤ h u → rank u < rank v
  unfolding rank
  rank_falls v {u} l up =
      count_less (λ w. is_higher points d w u) (λ w. is_higher points d w v) (vertices points) u
      (λ p k e. true_lt_z (<-trans (h v) (h u) (h p) up (lt_z_true _ _ e))) l (not_above_itself u) (true_lt_z up)

module _ (points : List ℤ) (corners begins : List ℕ) (d : Direction) (start : ℕ) where
  abbrev walk : ℕ → Standing
  walk = after points corners begins d start

  pub same-direction : (k : ℕ) → (walk k).direction ≡ d
  unfolding after
  same-direction zero = refl
  same-direction (suc k) = step-direction points corners begins (walk k) ∙ same-direction k

  -- what step k does
  pub by_step : (k : ℕ) → Stepped points corners begins d (walk k) (walk (suc k))
  unfolding after
  by_step k = rw (same-direction k) at (stepped points corners begins (walk k))

  -- it moved at each of k steps
  pub record Going (k : ℕ) : Type 0 where
    pub moves : (walk k).moves ≡ k
    pub placed : Placed points d (walk k).spot
    pub left : k + rank points d (walk k).spot.vertex < vertices points

  pub going_0 : Vertex points start → Going 0
  unfolding after
  going_0 l = record { moves = refl; placed = record { vertex = l; high = refl }; left = omega (arith, rank-few points d l) }

  pub going_more : {k u : ℕ} → Going k → Vertex points u → height points d (walk k).spot.vertex <ℤ height points d u
      → walk (suc k) ≡ move_to points u (walk k) → Going (suc k)
  going_more {k} {u} G l up e = record {
    moves = rw e (omega (arith, G.moves));
    placed = rw (e, same-direction k) (record { vertex = l; high = refl });
    left = rw e (omega (arith, G.left, rank_falls points d (walk k).spot.vertex l up));
  }

  -- where a step leaves the walk as it stands, so do all
  still : (k : ℕ) → walk (suc k) ≡ walk k → (n : ℕ) → walk (k + n) ≡ walk k
  unfolding after
  still k e zero = rw add-zero
  still k e (suc n) = rw add-suc (ap (step points corners begins) (still k e n) ∙ e)

  pub stopped : {k : ℕ} → Going k → walk (suc k) ≡ walk k → walk (vertices points) ≡ walk k
  stopped {k} G e =
      let z : k + (vertices points - k) ≡ vertices points = omega (arith, G.left) in
      rw z at (still k e (vertices points - k))

  -- ---- the whole walk

  -- step i moves: to the neighbour that the rule chooses, and up
  pub record Moves (i : ℕ) : Type 0 where
    pub chosen : Chosen points corners begins d (walk i).spot.vertex (walk (suc i)).spot.vertex
    pub up : height points d (walk i).spot.vertex <ℤ height points d (walk (suc i)).spot.vertex

  -- it moves k times, and stops where no neighbour is higher
  pub record Ends (k : ℕ) : Type 0 where
    pub going : Going k
    pub moves : (i : ℕ) → i < k → Moves i
    pub last : finish points corners begins d start ≡ walk k
    pub stuck : (w : ℕ) → Vertex points w → is_neighbour corners begins (walk k).spot.vertex w ≡ true
        → height points d w ≤ℤ height points d (walk k).spot.vertex

  pub ends : Vertex points start → (k : ℕ) × Ends k
  unfolding after
  ends l = go (vertices points) 0 (going_0 l) (omega arith) (λ i b. absurd (omega arith))
    where
      go : (fuel k : ℕ) → Going k → vertices points ≤ k + fuel → ((i : ℕ) → i < k → Moves i) → (k : ℕ) × Ends k
      go zero k G b M = absurd (omega (arith, G.left))
      go (suc fuel) k G b M = elim (by_step k) [
        | moved u v c up e ↦ go fuel (suc k) (going_more G v up e) (omega arith) (λ i m. elim (ℕ_discrete i k) [
          | yes z ↦ rw z (record { chosen = rw e c; up = rw e up })
          | no z ↦ M i (omega arith)
        ])
        | stayed h e ↦ (k, record { going = G; moves = M; last = stopped G e; stuck = h })
      ]

  -- ---- the trail

  pub stood-length : (n : ℕ) → length (stood points corners begins d start n) ≡ n
  unfolding stood
  stood-length zero = refl
  stood-length (suc n) = rw length-append (omega (arith, stood-length n))

  pub trail_more : {k : ℕ} (trail : List ℕ) → k < length trail
      → set (stood points corners begins d start k ++ drop k trail) k (walk k).spot.vertex
      ≡ stood points corners begins d start (suc k) ++ drop (suc k) trail
  unfolding stood
  trail_more {k} trail l =
      let xs = stood points corners begins d start k in
      rw (drop-cons trail k 0 l) (set_at xs (get_or trail k 0) (drop (suc k) trail) (walk k).spot.vertex k (stood-length k)
      ∙ sym (append_snoc xs (walk k).spot.vertex (drop (suc k) trail)))

  pub stood-at : (n i : ℕ) → i < n → get_or (stood points corners begins d start n) i 0 ≡ (walk i).spot.vertex
  unfolding stood
  stood-at zero i l = absurd (omega arith)
  stood-at (suc n) i l =
      let xs = stood points corners begins d start n in
      elim (ℕ_discrete i n) [
        | yes z ↦ rw z (get_or_at xs (walk n).spot.vertex [] 0 n (stood-length n))
        | no z ↦ get_or-append xs ((walk n).spot.vertex ∷ []) 0 i (rw (stood-length n) (omega arith)) ∙ stood-at n i (omega arith)
      ]
