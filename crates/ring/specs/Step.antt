-- The step round a vertex: across the edge that leaves it, and on to the next edge of that facet, which leaves it again. Assumes nothing.
use Rattle.std.specs.Prelude.{◌≡◌, List, ℕ, ◌<◌, length}
use Rattle.whole.specs.Orbit.{Steps}
use Rattle.tables.specs.Tables.{home_of, next_in, next_of, from}
use Rattle.tables.specs.Size.{Laid}
use Rattle.tables.specs.Places.{next-below, next-home, next-once}
use Rattle.index.specs.Entries.{home_at, across_at}
use Rattle.index.specs.declared.Edge.{Edge}
use Rattle.edges.specs.Chains.{leaves}
use Rattle.edges.specs.Edge.{across_of}
use Rattle.edges.specs.Index.{home_is, across_at-is, across_at-below}
use Rattle.pair.specs.Pair.{Paired}
use Rattle.pair.specs.Across.{across, across_once, Crossed}

unfoldable pub round_of : List ℕ → List ℕ → ℕ → ℕ
round_of corners begins p = next_of begins (across_of corners begins p)

module _ {corners begins : List ℕ} (L : Laid corners begins) (P : Paired corners begins) where
  pub step-below : {p : ℕ} → p < length corners → round_of corners begins p < length corners
  unfolding round_of
  step-below l = next-below L (across P l).below

  -- it stays at the vertex
  pub step-leaves : {p : ℕ} → p < length corners → from corners (round_of corners begins p) ≡ from corners p
  unfolding round_of
  step-leaves l = (across P l).ends

  -- it leads to the facet across
  pub step-home : {p : ℕ} → p < length corners → home_of begins (round_of corners begins p) ≡ home_of begins (across_of corners begins p)
  unfolding round_of
  step-home l = next-home L (across P l).below

  -- no two steps lead to one place
  pub step-once : {p q : ℕ} → p < length corners → q < length corners → round_of corners begins p ≡ round_of corners begins q → p ≡ q
  unfolding round_of
  step-once l m e = across_once P l m (next-once L (across P l).below (across P m).below e)

  pub steps : (v : ℕ) → Steps (leaves corners v) (length corners) (round_of corners begins)
  steps v = record {
    below = λ p l e. step-below l;
    holds = λ p l e. rw (step-leaves l) e;
    once = λ p q l m e f. step-once l m;
  }

-- what the code reads: the place across, and its facet
pub step-entry : {corners begins : List ℕ} {edges : List Edge} {heads : List ℕ} {p q f : ℕ} → Crossed corners begins edges heads
    → p < length corners → q ≡ across_at edges p → f ≡ home_at edges q → next_in begins f q ≡ round_of corners begins p
unfolding round_of next_of
step-entry C l e h = rw (h, e, home_is C.indexed (across_at-below C.indexed l), across_at-is C.indexed l)
