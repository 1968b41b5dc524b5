-- A closed surface of flat facets, however its tables are stored: what SIZE, REPEAT, PAIR, RING, BENT and TURN say of it. Assumes nothing.
-- P and F are any types whose values name vertices and facets, as ℕ: a vertex is what is a corner of some facet (UNUSED), a facet what has a corner.
use Rattle.std.specs.Prelude.{◌≡◌, ◌≢◌, ℤ, pos, ◌≤ℤ◌, ◌<ℤ◌}
use Rattle.std.proofs.Common.{sym, subst}
use Rattle.whole.specs.Order.{clash, lt→le, eq→le}
use Rattle.space.specs.Vec.{Vec}
use Rattle.space.specs.Vectors.{◌-ᵛ◌, ◌·◌, det, rotate, level, lower}
use Rattle.solid.specs.Left.{Left}
use Rattle.solid.specs.Reach.{Ring}

pub record Surface (P F : Type 0) : Type 1 where
  pub Corner : F → P → Type 0
  pub Edge : F → P → P → Type 0
  pub at : P → Vec ℤ
  pub normal : F → Vec ℤ
  -- the corner from which a facet's plane is measured
  pub first : F → P
  pub same? : (u w : P) → Dec (u ≡ w)
  pub corner? : (f : F) (w : P) → Dec (Corner f w)
  -- SIZE, REPEAT: a facet's corners make a circuit of three or more, and none comes again
  pub starts : {f : F} {u w : P} → Edge f u w → Corner f u
  pub ends : {f : F} {u w : P} → Edge f u w → Corner f w
  pub next : {f : F} {u : P} → Corner f u → (w : P) × Edge f u w
  pub prev : {f : F} {w : P} → Corner f w → (u : P) × Edge f u w
  pub one_next : {f : F} {u w w' : P} → Edge f u w → Edge f u w' → w ≡ w'
  pub no_return : {f : F} {u w : P} → Edge f u w → Edge f w u → ⊥
  -- PAIR
  pub one_facet : {f g : F} {u w : P} → Edge f u w → Edge g u w → f ≡ g
  pub across : {f : F} {u w : P} → Edge f u w → (g : F) × Edge g w u
  -- RING
  pub ring : {f : F} {v : P} → Corner f v → Ring Corner Edge v
  -- BENT
  pub flat : {f : F} {w : P} → Corner f w → normal f · (at w -ᵛ at (first f)) ≡ pos 0
  -- TURN
  pub turn : {f : F} {a b c : P} → Edge f a b → Corner f c → c ≢ a → c ≢ b → pos 0 <ℤ det (normal f) (at b -ᵛ at a) (at c -ᵛ at a)

module _ {P F : Type 0} (M : Surface P F) where
  open M use {Corner, Edge, at, normal, first, corner?, flat, starts, ends, one_next, no_return, one_facet, turn}

  pub no_loop : {f : F} {u w : P} → Edge f u w → u ≢ w
  no_loop {f} {u} e s = let l = subst (λ z. Edge f u z) (sym s) e in no_return l l

  -- a step over an edge at v leads to one facet only
  pub follow : {v q r : P} {g h k : F} → Edge g v q → Edge h q v → Edge g v r → Edge k r v → h ≡ k
  follow {v} {h} o i o' i' = one_facet (subst (λ z. Edge h z v) (one_next o o') i) i'

  -- w is strictly inside f's plane
  abbrev pub Inside : F → P → Type 0
  Inside f w = normal f · (at w -ᵛ at (first f)) <ℤ pos 0

  -- ---- where a vertex lies to f's plane, seen from any corner u of f

  pub on_plane : {f : F} {u w : P} → Corner f u → Corner f w → normal f · (at w -ᵛ at u) ≡ pos 0
  on_plane {f} {u} {w} cu cw = level (normal f) (at (first f)) (at u) (at w) (flat cu) (flat cw)

  -- w is a corner of f, or strictly inside
  module _ {f : F} {u w : P} (cu : Corner f u) (inside : ¬ Corner f w → Inside f w) where
    pub under : ¬ Corner f w → normal f · (at w -ᵛ at u) <ℤ pos 0
    under out = lower (normal f) (at (first f)) (at u) (at w) (flat cu) (inside out)

    pub not_above : normal f · (at w -ᵛ at u) ≤ℤ pos 0
    not_above = elim (corner? f w) [ yes c ↦ eq→le (on_plane cu c) | no out ↦ lt→le (under out) ]

    pub touches : pos 0 ≤ℤ normal f · (at w -ᵛ at u) → Corner f w
    touches h = elim (corner? f w) [ yes c ↦ c | no out ↦ absurd (clash (under out) h) ]

  -- ---- TURN, seen from either end of an edge

  pub from_start : {f : F} {a b c : P} → Edge f a b → Corner f c → c ≢ a → c ≢ b → Left (normal f) (at b -ᵛ at a) (at c -ᵛ at a)
  from_start e i ca cb = record { left = turn e i ca cb; on_a = on_plane (starts e) (ends e); on_b = on_plane (starts e) i }

  pub from_end : {f : F} {a b c : P} → Edge f a b → Corner f c → c ≢ a → c ≢ b → Left (normal f) (at c -ᵛ at b) (at a -ᵛ at b)
  from_end e i ca cb = record { left = rw rotate at (turn e i ca cb); on_a = on_plane (ends e) i; on_b = on_plane (ends e) (starts e) }
