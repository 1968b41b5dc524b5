-- Facets reached across edges, at one vertex and over the whole surface: of these RING and APART speak. Assumes nothing.
-- `Edge f u w` says that the facet f has the directed edge from u to w, `Corner f w` that w is a corner of f.

-- g is reached from f by steps across edges at v: over the edge v → q of one facet, to the facet that has q → v
pub data Around {P F : Type 0} (Edge : F → P → P → Type 0) (v : P) (f : F) : F → Type 0 where
  here : Around Edge v f f
  hop : {g h : F} {q : P} → Around Edge v f g → Edge g v q → Edge h q v → Around Edge v f h

-- RING: the facets at v make one ring
pub record Ring {P F : Type 0} (Corner : F → P → Type 0) (Edge : F → P → P → Type 0) (v : P) : Type 0 where
  pub start : F
  pub at_start : Corner start v
  pub reached : {g : F} → Corner g v → Around Edge v start g

-- APART: g is reached from f by steps across any edges
pub data Linked {P F : Type 0} (Edge : F → P → P → Type 0) (f : F) : F → Type 0 where
  self : Linked Edge f f
  link : {g h : F} {a b : P} → Linked Edge f g → Edge g a b → Edge h b a → Linked Edge f h
