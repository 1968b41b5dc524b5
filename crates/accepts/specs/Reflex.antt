-- 11, REFLEX: "some corner of the facet across this edge, other than the edge's ends, isn't strictly inside this facet's plane"; "lowest facet and then
-- lowest position". In tables that pass 1 to 10 one facet stands across each edge, and REFLEX names exactly the first such place. Assumes nothing.
use Rattle.std.specs.Prelude.{◌≡◌, ◌⊎◌, ◌≢◌, List, ℤ}
use Prim.Native.Nat.{ℕ, ◌<◌}
use Rattle.bridge.specs.Surface.{tables_of}
use Rattle.solid.specs.Tables.{Tables, Place, Corner, Inside, next}

-- place (g, q) is before (f, p): "lowest facet and then lowest position"
abbrev pub Before : ℕ → ℕ → ℕ → ℕ → Type 0
Before g q f p = (g < f) ⊎ ((g ≡ f) × (q < p))

module _ (points : List ℤ) (corners begins : List ℕ) where
  abbrev t : Tables
  t = tables_of points corners begins

  open t use {corner}

  -- position q of facet g names the reverse of the edge at position p of facet f
  pub record Across (f p g q : ℕ) : Type 0 where
    pub place : Place t g q
    pub starts : corner g q ≡ next t f p
    pub ends : next t g q ≡ corner f p

  -- "the facet across this edge": there is one, and no other
  pub record OneAcross (f p : ℕ) : Type 0 where
    pub facet : ℕ
    pub position : ℕ
    pub across : Across f p facet position
    pub only : {g q : ℕ} → Across f p g q → (g ≡ facet) × (q ≡ position)

  -- REFLEX applies at position p of facet f
  pub record Reflex (f p : ℕ) : Type 0 where
    pub place : Place t f p
    pub facet : ℕ
    pub position : ℕ
    pub across : Across f p facet position
    -- "some corner of the facet across"
    pub vertex : ℕ
    pub corner_of : Corner t facet vertex
    -- "other than the edge's ends"
    pub not_start : vertex ≢ corner f p
    pub not_end : vertex ≢ next t f p
    -- "isn't strictly inside this facet's plane"
    pub not_inside : ¬ Inside t f vertex

  -- and at no place before
  pub record FirstReflex (f p : ℕ) : Type 0 where
    pub here : Reflex f p
    pub before : (g q : ℕ) → Before g q f p → ¬ Reflex g q
