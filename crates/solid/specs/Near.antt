-- A surface that is convex near each vertex: of a facet's plane, only neighbours of the facet's corners are asked. Assumes nothing.
use Rattle.std.proofs.Common.{sym}
use Rattle.std.specs.Prelude.{◌≢◌}
use Rattle.whole.specs.Order.{clash, eq→le}
use Rattle.solid.specs.Surface.{Surface, Inside}

pub record Near {P F : Type 0} (M : Surface P F) : Type 0 where
  -- REFLEX: of the facet across an edge, each corner but the edge's ends is strictly inside
  pub reflex : {f g : F} {a b c : P} → M.Edge f a b → M.Edge g b a → M.Corner g c → c ≢ a → c ≢ b → Inside M f c
  -- N: a neighbour u of a corner v of f is a corner of f, or strictly inside
  pub neighbour : {f g : F} {v u : P} → M.Corner f v → M.Edge g v u → ¬ M.Corner f u → Inside M f u

module _ {P F : Type 0} {M : Surface P F} (N : Near M) where
  open M use {Corner, Edge, flat, across}
  open N use {reflex, neighbour}

  -- the same of an edge into v
  pub neighbour_in : {f g : F} {v u : P} → Corner f v → Edge g u v → ¬ Corner f u → Inside M f u
  neighbour_in c e = neighbour c (across e).1

  -- the facets at an edge have only its ends in common
  pub only_ends : {f g : F} {a b c : P} → Edge f a b → Edge g b a → Corner f c → Corner g c → c ≢ a → c ≢ b → ⊥
  only_ends e r cf cg ca cb = clash (reflex e r cg ca cb) (eq→le (sym (flat cf)))
