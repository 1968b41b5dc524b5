-- Directions along which no two corners of a facet are equally high. Assumes nothing.
use Rattle.std.specs.Prelude.{◌≡◌, ◌≢◌, ◌+◌, ℤ, ◌≤ℤ◌}
use Rattle.std.proofs.Common.{sym, subst}
use Rattle.whole.specs.Order.{clash, not_lt}
use Rattle.space.specs.Vec.{Vec}
use Rattle.space.specs.Vectors.{◌-ᵛ◌, ◌·◌, fall, climb, even, not_0}
use Rattle.solid.specs.Surface.{Surface}
use Rattle.solid.specs.Box.{Box, box_sub}
use Rattle.solid.specs.Generic.{Generic, along as along_of}
use Rattle.solid.proofs.Keys.{key-higher, key-0}
use Rattle.solid.specs.Local.{Local}

module _ {P F : Type 0} {M : Surface P F} (L : Local M) (n : Vec ℤ) where
  open M use {Corner, Edge, at, normal, same?, starts, next, no_return, turn}
  open L use {limit, in_box}

  abbrev along : Vec ℤ
  along = along_of L n

  apart : {f g : F} {u w : P} → Corner f u → Corner g w → Box (limit + limit) (at w -ᵛ at u)
  apart cu cw = box_sub (in_box cw) (in_box cu)

  -- the height along n decides first
  pub decides : {f g : F} {u w : P} → Corner f u → Corner g w → along · at u ≤ℤ along · at w → n · at u ≤ℤ n · at w
  decides {u} {w} cu cw h = not_lt (λ k. clash (key-higher (apart cw cu) n (climb n (at w) (at u) k)) (fall along (at u) (at w) h))

  no_tie : {g : F} {u q w : P} → Edge g u q → Corner g w → w ≢ u → w ≢ q → along · at u ≢ along · at w
  no_tie {g} {u} {q} {w} o cw wu wq e =
      let (x, y, z) = key-0 (apart (starts o) cw) n (even along (at u) (at w) e) in
      not_0 (normal g) (at q -ᵛ at u) (at w -ᵛ at u) x y z (turn o cw wu wq)

  one_height : {g : F} {u w : P} → Corner g u → Corner g w → along · at u ≡ along · at w → u ≡ w
  one_height {g} {u} {w} cu cw e =
      let (q, o) = next cu in
      let (r, k) = next cw in
      elim (same? u w) [
        | yes s ↦ s
        | no uw ↦ elim (same? w q) [
          | no wq ↦ absurd (no_tie o cw (λ s. uw (sym s)) wq e)
          | yes wq ↦ absurd (no_tie k cu uw (λ s. no_return o (subst (λ z. Edge g z u) wq (subst (λ z. Edge g w z) (sym s) k))) (sym e))
        ]
      ]

  pub generic : Generic M along
  generic = record { one_height = one_height }
