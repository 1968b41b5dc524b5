-- The search for the best of a vertex and its neighbours, along the chain of the vertex. Assumes nothing.
use Rattle.std.specs.Prelude.{◌≡◌, refl, ◌⊎◌, Bool, true, false, cond, List, ℕ, ◌-◌, ◌≤◌, ◌<◌, ltb, ℤ, ◌≤ℤ◌, ◌<ℤ◌, length}
use Rattle.std.proofs.Common.{sym, ◌∙◌, inl, inr, true≢false, arith, eq-eqb, ltb-true, ltb-false}
use Rattle.std.proofs.Math.Decide.{ℕ_discrete, dec_lt}
use Rattle.std.specs.Int.Signed.{lt_z}
use Rattle.whole.specs.Order.{≤-antisym, <-trans, lt_z_true, lt_z_false}
use Rattle.whole.specs.First.{any_is}
use Rattle.points.specs.Points.{Vertex, Ranged}
use Rattle.tables.specs.Tables.{most_vertices, from, to}
use Rattle.tables.specs.Places.{next-below}
use Rattle.index.specs.Entries.{head_at, back_at, end_at}
use Rattle.index.specs.declared.Edge.{Edge}
use Rattle.edges.specs.Chains.{Chains, On, on_0, on_more, falls, gap_0, gap_more}
use Rattle.edges.specs.Edge.{is_edge}
use Rattle.edges.specs.Index.{Leaving}
use Rattle.edges.specs.Along.{link_place}
use Rattle.flat.specs.Facet.{Measured}
use Rattle.height.specs.Height.{height, spot, better, Placed}
use Rattle.direction.specs.Direction.{Permitted}
use Rattle.climb.specs.Move.{is_neighbour}
use Rattle.climb.specs.Ready.{Ready, small}
use Rattle.direction.specs.declared.Direction.{Direction}
use Rattle.climb.specs.declared.Standing.{Standing}
use Rattle.height.specs.declared.Spot.{Spot}

-- u is w, or better
pub data Beats (h : ℕ → ℤ) (u w : ℕ) : Type 0 where
  higher : h w <ℤ h u → Beats h u w
  level : h w ≡ h u → u ≤ w → Beats h u w

pub beats_self : {h : ℕ → ℤ} {u : ℕ} → Beats h u u
beats_self = level refl (omega arith)

pub beats_trans : {h : ℕ → ℤ} {u w x : ℕ} → Beats h u w → Beats h w x → Beats h u x
beats_trans {h} {u} {w} {x} (higher a) (higher b) = higher (<-trans (h x) (h w) (h u) b a)
beats_trans (higher a) (level b l) = higher (rw b a)
beats_trans (level a k) (higher b) = higher (rw (← a) b)
beats_trans (level a k) (level b l) = level (b ∙ a) (omega arith)

-- what `better` answers of two spots, by cases
module _ {h : ℕ → ℤ} {a b : Spot} (ea : a.height ≡ h a.vertex) (eb : b.height ≡ h b.vertex) (P : Spot → Type 0)
    (keeps : Beats h a.vertex b.vertex → P a) (takes : Beats h b.vertex a.vertex → P b) where
  by_number : (t : Bool) → ltb b.vertex a.vertex ≡ t → a.height ≡ b.height → P (cond t b a)
  by_number true e s = takes (level (sym ea ∙ s ∙ eb) (omega (arith, ltb-true b.vertex a.vertex e)))
  by_number false e s = keeps (level (sym eb ∙ sym s ∙ ea) (ltb-false _ _ e))

  not_higher : (t : Bool) → lt_z b.height a.height ≡ t → b.height ≤ℤ a.height → P (cond t a (cond (ltb b.vertex a.vertex) b a))
  not_higher true e l = keeps (higher (rw (← ea, ← eb) (lt_z_true _ _ e)))
  not_higher false e l = by_number (ltb b.vertex a.vertex) refl (≤-antisym _ _ (lt_z_false _ _ e) l)

  better-is : P (better a b)
  better-is = go (lt_z a.height b.height) refl
    where
      go : (t : Bool) → lt_z a.height b.height ≡ t
          → P (cond t b (cond (lt_z b.height a.height) a (cond (ltb b.vertex a.vertex) b a)))
      go true e = takes (higher (rw (← ea, ← eb) (lt_z_true _ _ e)))
      go false e = not_higher (lt_z b.height a.height) refl (lt_z_false _ _ e)

-- s is the best of v and the ends of the edges that leave v at links that were passed; q is the link to pass next
pub record Best (points : List ℤ) (corners begins : List ℕ) (d : Direction) (v q : ℕ) (s : Spot) : Type 0 where
  pub on : On corners v q
  pub placed : Placed points d s
  pub joined : (s.vertex ≡ v) ⊎ (is_neighbour corners begins v s.vertex ≡ true)
  pub self : Beats (height points d) s.vertex v
  pub passed : (p : ℕ) → q ≤ p → p < length corners → from corners p ≡ v → Beats (height points d) s.vertex (to corners begins p)

-- the end of an edge that leaves v is a neighbour
pub end-neighbour : (corners begins : List ℕ) {v p : ℕ} → p < length corners → from corners p ≡ v
    → is_neighbour corners begins v (to corners begins p) ≡ true
end-neighbour corners begins {v} {p} l e =
    any_is (is_edge corners begins v (to corners begins p)) (length corners) p l (rw (eq-eqb _ _ e, eq-eqb _ _ refl))

module _ {points : List ℤ} {corners begins : List ℕ} {d : Direction} {edges : List Edge} {heads : List ℕ}
    (C : Chains corners edges heads (length corners)) where
  best_0 : {s : Spot} → s.vertex < most_vertices → Placed points d s → Best points corners begins d s.vertex (head_at heads s.vertex) s
  best_0 l h = record {
    on = on_0 C l;
    placed = h;
    joined = inl refl;
    self = beats_self;
    passed = λ p a b k. absurd (true≢false (sym (eq-eqb _ _ k) ∙ gap_0 C l p a b));
  }

  module _ {v q : ℕ} {s : Spot} (h : 0 < q) (B : Best points corners begins d v q s) where
    abbrev end : ℕ
    end = to corners begins (q - 1)

    best_at : (m : Spot) → Placed points d m → (m.vertex ≡ v) ⊎ (is_neighbour corners begins v m.vertex ≡ true)
        → Beats (height points d) m.vertex s.vertex → Beats (height points d) m.vertex end → Best points corners begins d v (back_at edges (q - 1)) m
    best_at m a c f g = record {
      on = on_more C h B.on;
      placed = a;
      joined = c;
      self = beats_trans f B.self;
      passed = λ p x y z. elim (dec_lt p (q - 1)) [
        | yes j ↦ absurd (true≢false (sym (eq-eqb _ _ z) ∙ gap_more C h B.on p x j))
        | no j ↦ elim (ℕ_discrete p (q - 1)) [ yes i ↦ rw i g | no i ↦ beats_trans f (B.passed p (omega arith) y z) ]
      ];
    }

    best_more : Vertex points end → q - 1 < length corners → Best points corners begins d v (back_at edges (q - 1)) (better s (spot points d end))
    best_more a l =
        better-is {h = height points d} {a = s} {b = spot points d end} B.placed.high refl (Best points corners begins d v (back_at edges (q - 1)))
        (λ f. best_at s B.placed B.joined beats_self f)
        (λ f. best_at (spot points d end) (record { vertex = a; high = refl }) (inr (end-neighbour corners begins l (B.on.leads h))) f beats_self)

-- ---- the search, at link q of the chain of v

pub record Searching (points : List ℤ) (corners begins : List ℕ) (edges : List Edge) (heads : List ℕ) (d : Direction) (v q : ℕ) (s : Spot) : Type 0 where
  pub measured : Measured points corners begins
  pub leaving : Leaving corners begins edges heads
  pub permitted : Permitted d
  pub best : Best points corners begins d v q s

pub searching_0 : {points : List ℤ} {corners begins : List ℕ} {edges : List Edge} {heads : List ℕ} {here : Standing}
    → Ready points corners begins edges heads here
    → Searching points corners begins edges heads here.direction here.spot.vertex (head_at heads here.spot.vertex) here.spot
searching_0 R = record {
  measured = R.measured;
  leaving = R.leaving;
  permitted = R.permitted;
  best = best_0 R.leaving.chains (small R) R.placed;
}

module _ {points : List ℤ} {corners begins : List ℕ} {edges : List Edge} {heads : List ℕ} {d : Direction} {v q : ℕ} {s : Spot}
    (S : Searching points corners begins edges heads d v q s) where
  module _ (h : 0 < q) where
    place-below : q - 1 < length corners
    place-below = (link_place S.leaving S.best.on h).0

    pub link_falls : back_at edges (q - 1) < q
    link_falls = falls S.leaving.chains h S.best.on

    -- the edge ends at a vertex
    end-vertex : Vertex points (to corners begins (q - 1))
    end-vertex = S.measured.sound.named.index _ (next-below S.measured.sound.laid place-below)

    module _ {end : ℕ} (e : end ≡ end_at edges (q - 1)) where
      end_is : end ≡ to corners begins (q - 1)
      end_is = e ∙ S.leaving.ends (q - 1) place-below

      pub end-spot : Ranged points × Vertex points end × Permitted d
      end-spot = (S.measured.ranged, rw end_is end-vertex, S.permitted)

      pub searching_more : Searching points corners begins edges heads d v (back_at edges (q - 1)) (better s (spot points d end))
      searching_more = record {
        measured = S.measured;
        leaving = S.leaving;
        permitted = S.permitted;
        best = rw end_is (best_more S.leaving.chains h S.best end-vertex place-below);
      }
