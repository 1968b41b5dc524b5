-- At a vertex v, what lies above it stays together: two higher corners of facets at v are joined by a way above v. Assumes nothing.
use Rattle.std.proofs.Common.{subst, inl, inr}
use Rattle.std.specs.Prelude.{ℤ, ◌≤ℤ◌, ◌<ℤ◌}
use Rattle.whole.specs.Order.{le_or_lt, clash, not_le, eq→le}
use Rattle.space.specs.Vec.{Vec}
use Rattle.space.specs.Vectors.{◌·◌, fall, unfall}
use Rattle.solid.specs.Reach.{Around, here, hop}
use Rattle.solid.specs.Surface.{Surface}
use Rattle.solid.specs.Near.{Near}
use Rattle.solid.specs.Wedge.{sides-bound}
use Rattle.solid.specs.Round.{round}
use Rattle.solid.specs.Fall.{Falls}
use Rattle.solid.proofs.Fall.{one_fall}
use Rattle.solid.specs.Path.{Path, start, go, end, join, reverse}

module _ {P F : Type 0} {M : Surface P F} (N : Near M) (d : Vec ℤ) (v : P) where
  open M use {Corner, Edge, at, starts, ends, prev}

  abbrev Up : P → Type 0
  Up u = d · at v <ℤ d · at u

  -- where a facet has a higher corner and the one after v is not higher, the one before v is
  one_side : {g : F} {p q c : P} → Edge g p v → Edge g v q → Corner g c → Up c → d · at q ≤ℤ d · at v → Up p
  one_side {p} {q} {c} e o k up down = not_le (λ h. clash up (unfall d (at c) (at v)
      (sides-bound M e o k (λ s. clash up (eq→le (rw s))) d (fall d (at q) (at v) down) (fall d (at p) (at v) h))))

  -- from x a way above v leads to a corner of h
  record Met (x : P) (h : F) : Type 0 where
    z : P
    corner : Corner h z
    path : Path Corner Up x z

  -- going round v from x, we are at h, or have met the facet that falls
  data Seen (x : P) (h : F) : Type 0 where
    on : Met x h → Seen x h
    fell : {k : F} → Falls M d v k → Met x k → Seen x h

  pass : {x q : P} {g h : F} → Edge g v q → Edge h q v → Seen x g → Seen x h
  pass o i (fell f m) = fell f m
  pass {q} o i (on m) = elim (le_or_lt (d · at q) (d · at v)) [
    | inr up ↦ on (record { z = q; corner = starts i; path = go m.path m.corner (ends o) up })
    | inl down ↦ let (p, e) = prev (starts o) in
        fell (record { p = p; q = q; into = e; out = o; up = one_side e o m.corner (end m.path) down; down = down }) m
  ]

  walk : {x : P} {g h : F} → Around Edge v g h → Met x g → Seen x h
  walk here m = on m
  walk (hop a o i) m = pass o i (walk a m)

  module _ {f g : F} {x y : P} (fv : Corner f v) (fx : Corner f x) (x-up : Up x) (gv : Corner g v) (gy : Corner g y) (y-up : Up y) where
    -- walked both ways round, one walk arrives, or both meet the one fall
    meet : Seen x g → Seen y f → Path Corner Up x y
    meet (on m) s = go m.path m.corner gy y-up
    meet (fell h m) (on n) = reverse (go n.path n.corner fx x-up)
    meet (fell h m) (fell k n) =
        join (go m.path m.corner (subst (λ f. Corner f n.z) (one_fall N k h) n.corner) (end n.path)) (reverse n.path)

    pub fan : Path Corner Up x y
    fan = meet
        (walk (round M fv gv) (record { z = x; corner = fx; path = start x-up }))
        (walk (round M gv fv) (record { z = y; corner = gy; path = start y-up }))
