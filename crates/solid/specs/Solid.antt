-- A solid: a closed surface that lies on one side of each of its facets. Assumes nothing.
use Rattle.std.specs.Prelude.{◌≢◌}
use Rattle.solid.specs.Surface.{Surface, Inside}

-- a facet besides f and g
pub record Third {P F : Type 0} (Edge : F → P → P → Type 0) (f g : F) : Type 0 where
  pub facet : F
  pub a : P
  pub b : P
  pub edge : Edge facet a b
  pub not_f : facet ≢ f
  pub not_g : facet ≢ g

pub record Solid {P F : Type 0} (M : Surface P F) : Type 0 where
  -- OUTSIDE
  pub inside : {f g : F} {u w : P} → M.Corner f u → M.Corner g w → ¬ M.Corner f w → Inside M f w
  -- SIZE: there are three facets or more
  pub third : (f g : F) → Third M.Edge f g
