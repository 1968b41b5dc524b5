-- Around one vertex of a surface that is convex near each: L5 and L7. Assumes nothing.
use Rattle.std.specs.Prelude.{◌≡◌, ◌≢◌, ◌⊎◌}
use Rattle.std.proofs.Common.{sym, inl, inr}
use Rattle.whole.specs.Order.{eq→le}
use Rattle.space.specs.Vectors.{◌-ᵛ◌}
use Rattle.solid.specs.Left.{Left, between_0, not_left_of_both}
use Rattle.solid.specs.Surface.{Surface, no_loop, on_plane, not_above, touches, from_start, from_end}
use Rattle.solid.specs.Near.{Near, neighbour_in, only_ends}
use Rattle.solid.specs.Wedge.{sides-differ, wedge}

module _ {P F : Type 0} {M : Surface P F} (N : Near M) where
  open M use {Corner, Edge, at, normal, same?, starts, ends}
  open N use {neighbour}

  -- f has the corners p → v → q
  module _ {f : F} {p v q : P} (into : Edge f p v) (out : Edge f v q) where
    -- L7: the facet across v → q is not the one across p → v
    pub no_digon : {g : F} → Edge g q v → Edge g v p → ⊥
    no_digon r e = only_ends N out r (starts into) (ends e) (no_loop M into) (sides-differ M into out)

    -- L5: an edge from a corner of f to v is no diagonal of f
    module _ {g : F} {u : P} (cu : Corner f u) (e : Edge g u v) where
      module _ (not-p : u ≢ p) (not-q : u ≢ q) where
        left-of_q : Left (normal f) (at q -ᵛ at v) (at u -ᵛ at v)
        left-of_q = from_start M out cu (no_loop M e) not-q

        right_of_p : Left (normal f) (at u -ᵛ at v) (at p -ᵛ at v)
        right_of_p = from_end M into cu not-p (no_loop M e)

        -- the plane of g holds u, and has neither q nor p above it: it holds both
        held : Corner g q × Corner g p
        held =
            let at-q = neighbour (ends e) out in
            let at_p = neighbour_in N (ends e) into in
            let (hq, hp) = between_0 left-of_q right_of_p (wedge M into out) (normal g) (not_above M (ends e) at-q) (not_above M (ends e) at_p)
            (eq→le (sym (on_plane M (ends e) (starts e)))) in
            (touches M (ends e) at-q hq, touches M (ends e) at_p hp)

        -- but there u → v has both on its left
        diagonal : ⊥
        diagonal = not_left_of_both left-of_q right_of_p (wedge M into out)
            (from_end M e held.0 (λ s. not-q (sym s)) (λ s. no_loop M out (sym s))) (from_end M e held.1 (λ s. not-p (sym s)) (no_loop M into))

      pub no_diagonal : (u ≡ p) ⊎ (u ≡ q)
      no_diagonal = elim (same? u p) [ yes s ↦ inl s | no not-p ↦ elim (same? u q) [ yes s ↦ inr s | no not-q ↦ absurd (diagonal not-p not-q) ] ]
