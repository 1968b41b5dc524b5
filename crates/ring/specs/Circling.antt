-- The code's loop round a vertex: a step for each further link of its chain. Assumes nothing.
use Rattle.std.specs.Prelude.{◌≡◌, refl, true, false, List, ℕ, ◌+◌, ◌-◌, ◌≤◌, ◌<◌, length}
use Rattle.std.proofs.Common.{sym, ◌∙◌, arith, eq-eqb, ne_eqb}
use Rattle.std.proofs.Math.Path.{ap}
use Rattle.whole.specs.First.{Nowhere, nowhere_0, nowhere_more, any_is, any_none}
use Rattle.whole.specs.Count.{bit, count-but}
use Rattle.whole.specs.Orbit.{iterate, iterate-more}
use Rattle.tables.specs.Tables.{most_vertices, most_corners}
use Rattle.index.specs.Entries.{back_at, head_at}
use Rattle.index.specs.declared.Edge.{Edge}
use Rattle.edges.specs.Chains.{leaves, Chains, On, Met, falls, met_0, met_more, met_all}
use Rattle.edges.specs.Index.{leaves-each}
use Rattle.edges.specs.Along.{link_place}
use Rattle.pair.specs.Across.{Crossed}
use Rattle.ring.specs.Step.{round_of, step-below}
use Rattle.ring.specs.Ring.{start, is_back, broken}

-- after i steps from p, none of which led back, it stands at q; the chain has i + 1 places before link k
pub record Circling (corners begins : List ℕ) (edges : List Edge) (heads : List ℕ) (v p q k : ℕ) : Type 0 where
  pub crossed : Crossed corners begins edges heads
  pub i : ℕ
  pub first : p ≡ start corners v
  pub at : q ≡ iterate (round_of corners begins) i p
  pub below : q < length corners
  pub unmet : Nowhere (is_back corners begins p) i
  pub met : Met corners v (leaves corners v) (i + 1) k

module _ {corners begins : List ℕ} {edges : List Edge} {heads : List ℕ} (C : Crossed corners begins edges heads) where
  chains : Chains corners edges heads (length corners)
  chains = (leaves-each C.indexed).chains

  module _ {v : ℕ} where
    -- every place of the chain leaves v
    met_next : {n q : ℕ} → Met corners v (leaves corners v) n q → 0 < q → Met corners v (leaves corners v) (n + 1) (back_at edges (q - 1))
    met_next m h = met_more chains (λ p x. x) h m (sym (ap bit (eq-eqb _ _ (m.on.leads h))))

    link_small : {q : ℕ} → On corners v q → 0 < q → q - 1 < most_corners
    link_small o h = (link_place (leaves-each C.indexed) o h).1

    module _ (l : v < most_vertices) where
      begun : Met corners v (leaves corners v) 0 (head_at heads v)
      begun = met_0 chains (λ p x. x) l

      pub first_small : 0 < head_at heads v → head_at heads v - 1 < most_corners
      first_small h = link_small begun.on h

      pub circling_0 : 0 < head_at heads v
          → Circling corners begins edges heads v (head_at heads v - 1) (head_at heads v - 1) (back_at edges (head_at heads v - 1))
      unfolding iterate
      circling_0 h = record {
        crossed = C;
        i = 0;
        first = ap (λ q. q - 1) (chains.firsts v l);
        at = refl;
        below = omega (arith, begun.on.upto);
        unmet = nowhere_0 _;
        met = met_next begun h;
      }

      -- no edge leaves v
      pub circling_none : head_at heads v ≡ 0 → false ≡ broken corners begins v
      circling_none e = let n = met_all begun (omega arith) in sym (any_none _ _ (λ j l. absurd (omega arith)))

module _ {corners begins : List ℕ} {edges : List Edge} {heads : List ℕ} {v p q k : ℕ} (T : Circling corners begins edges heads v p q k) where
  module _ (h : 0 < k) where
    pub turn_falls : back_at edges (k - 1) < k
    turn_falls = falls (chains T.crossed) h T.met.on

    module _ {r : ℕ} (s : r ≡ round_of corners begins q) where
      next_at : r ≡ iterate (round_of corners begins) (T.i + 1) p
      next_at = rw (iterate-more, ← T.at) s

      pub circling_more : (r ≡ p → ⊥) → Circling corners begins edges heads v p r (back_at edges (k - 1))
      circling_more d = record {
        crossed = T.crossed;
        i = T.i + 1;
        first = T.first;
        at = next_at;
        below = rw s (step-below T.crossed.indexed.tables.laid T.crossed.paired T.below);
        unmet = nowhere_more T.unmet (rw (← next_at) (ne_eqb _ _ d));
        met = met_next T.crossed T.met h;
      }

      pub circling_back : r ≡ p → true ≡ broken corners begins v
      circling_back e =
          let c = count-but (leaves corners v) (k - 1) k (omega arith) (eq-eqb _ _ (T.met.on.leads h)) in
          rw (← T.first) (sym (any_is _ _ T.i (omega (arith, T.met.sum)) (eq-eqb _ _ (sym next_at ∙ e))))

  pub circling_end : k ≤ 0 → false ≡ broken corners begins v
  circling_end h = let n = met_all T.met h in rw (← T.first) (sym (any_none _ _ (λ j l. T.unmet j (omega arith))))
