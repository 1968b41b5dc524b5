-- T-12: each vertex is a true corner: in some direction it is higher than every other. Assumes nothing.
use Rattle.std.specs.Prelude.{◌≡◌, ◌≢◌, ℤ, ◌<ℤ◌}
use Rattle.std.proofs.Common.{sym, ◌∙◌}
use Rattle.whole.specs.Order.{clash, eq→le, not_le}
use Rattle.whole.specs.Signs.{no_part}
use Rattle.space.specs.Vec.{Vec}
use Rattle.space.specs.Vectors.{◌·◌, sum, rise_sum}
use Rattle.solid.specs.Surface.{Surface, not_above, touches}
use Rattle.solid.specs.Near.{only_ends}
use Rattle.solid.specs.Solid.{Solid}
use Rattle.solid.specs.Reflex.{near}
use Rattle.solid.specs.Wedge.{sides-differ}

module _ {P F : Type 0} {M : Surface P F} (S : Solid M) where
  open M use {Corner, Edge, at, normal, same?, starts, ends, next, across}
  open S use {inside}

  common : {f g : F} {v q w : P} → Edge f v q → Edge g q v → Corner f w → Corner g w → w ≢ v → w ≡ q
  common {q} {w} e r cf cg wv = elim (same? w q) [ yes s ↦ s | no wq ↦ absurd (only_ends (near S) e r cf cg wv wq) ]

  -- f, g and h are three facets in turn around v
  peak : {f g h k : F} {v q r w : P} → Edge f v q → Edge g q v → Edge g v r → Edge h r v → Corner k w → w ≢ v
      → sum (normal f) (normal g) (normal h) · at w <ℤ sum (normal f) (normal g) (normal h) · at v
  peak {f} {g} {h} {v} {w} o i o' i' cw wv = not_le (λ high.
      let in_f = inside (starts o) cw in
      let in_g = inside (ends i) cw in
      let in-h = inside (ends i') cw in
      let (a, b, c) = no_part (not_above M (starts o) in_f) (not_above M (ends i) in_g) (not_above M (ends i') in-h)
      (rise_sum (normal f) (normal g) (normal h) (at w) (at v) high) in
      let cg = touches M (ends i) in_g b in
      sides-differ M i o' (sym (common o i (touches M (starts o) in_f a) cg wv) ∙ common o' i' cg (touches M (ends i') in-h c) wv))

  pub true_corner : {f : F} {v : P} → Corner f v → (d : Vec ℤ) × ((g : F) (w : P) → Corner g w → w ≢ v → d · at w <ℤ d · at v)
  true_corner {f} c =
      let (q, o) = next c in
      let (g, i) = across o in
      let (r, o') = next (ends i) in
      let (h, i') = across o' in
      (sum (normal f) (normal g) (normal h), λ k w cw wv. peak o i o' i' cw wv)

  -- so no two vertices stand at one point
  pub one_point : {f g : F} {v w : P} → Corner f v → Corner g w → at v ≡ at w → v ≡ w
  one_point {f} {g} {v} {w} cv cw s =
      let (d, top) = true_corner cv in
      elim (same? w v) [ yes e ↦ sym e | no wv ↦ absurd (clash (top g w cw wv) (eq→le (rw s))) ]
