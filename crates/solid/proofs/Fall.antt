-- Going round a vertex, the neighbours pass from up to not up in one facet at most. Assumes nothing.
use Rattle.std.specs.Prelude.{◌≡◌, ℤ, ◌≤ℤ◌}
use Rattle.std.proofs.Common.{sym, subst, inl, inr}
use Rattle.whole.specs.Order.{clash}
use Rattle.space.specs.Vec.{Vec}
use Rattle.space.specs.Vectors.{◌·◌, fall, climb}
use Rattle.solid.specs.Surface.{Surface, not_above, touches}
use Rattle.solid.specs.Near.{Near, neighbour_in}
use Rattle.solid.specs.Wedge.{wedge}
use Rattle.solid.specs.Vertex.{no_diagonal}
use Rattle.solid.specs.Crossing.{one_crossing}
use Rattle.solid.specs.Fall.{Falls}

module _ {P F : Type 0} {M : Surface P F} (N : Near M) {d : Vec ℤ} {v : P} where
  open M use {Corner, Edge, at, ends, across, one_facet}
  open N use {neighbour}

  module _ {f g : F} (a : Falls M d v f) (b : Falls M d v g) where
    -- the corner after v in g lies on the plane of f
    held : Corner f b.q
    held =
        let cf = ends a.into in
        let cg = ends b.into in
        touches M cf (neighbour cf b.out) (one_crossing (wedge M a.into a.out) (wedge M b.into b.out) d
        (fall d (at a.q) (at v) a.down) (climb d (at v) (at a.p) a.up) (fall d (at b.q) (at v) b.down) (climb d (at v) (at b.p) b.up)
        (not_above M cg (neighbour cg a.out)) (not_above M cg (neighbour_in N cg a.into)) (not_above M cf (neighbour_in N cf b.into)))

    -- it is not higher than v, so it is the one after v in f
    pub one_fall : f ≡ g
    one_fall = elim (no_diagonal N a.into a.out held (across b.out).1) [
      | inl s ↦ absurd (clash a.up (subst (λ z. d · at z ≤ℤ d · at v) s b.down))
      | inr s ↦ one_facet (subst (λ z. Edge f v z) (sym s) a.out) b.out
    ]
