-- Steps that lead up or down along a direction, and the turns between them. Assumes nothing.
-- The direction is given by a vector e: a step u leads up where det e u is positive, that is to the left of e.
use Rattle.std.specs.Prelude.{◌≡◌, Bool, true, false, not, ◌↔◌, ℤ, pos, negsuc, ◌+ℤ◌, ◌-ℤ◌, ◌*ℤ◌, ◌≤ℤ◌, ◌<ℤ◌}
use Rattle.whole.specs.Solver.{num, ◌⊕◌, ◌⊖◌, ◌⊗◌, ◌≐◌}
use Rattle.whole.specs.Order.{prove, ◌≼◌, ◌≺◌, ◌≃◌, ◌⇒◌, ◌since◌, hyp, by, ◌⊞◌, ◌⊠◌, lt→le, not_le, never, clash, diff_pos, pos_diff}
use Rattle.whole.specs.Signs.{neg-≤, neg-<, neg_neg-<}
use Rattle.whole.specs.Formula.{exprs}
use Rattle.space.specs.Plane.{Vec, sub, opp, det, subᵒ, detᵒ, solve², det-skew, det-opp, det-opp_l, det-opp_r}

-- a step leads up, or down
abbrev pub Side : Vec ℤ → Bool → Vec ℤ → Type 0
Side e true u = pos 0 <ℤ det e u
Side e false u = det e u <ℤ pos 0

-- ---- how far a step leads up

-- a step leads up, or down, as its end lies farther left of e than its start, or less far
step-up : (e a b : Vec ℤ) → det e (sub b a) ≡ det e b -ℤ det e a
unfolding det
step-up = solve² 3 (λ e a b. detᵒ exprs e (subᵒ exprs b a) ≐ detᵒ exprs e b ⊖ detᵒ exprs e a) tt

pub rises_by : (e a b : Vec ℤ) → (det e a <ℤ det e b) ↔ Side e true (sub b a)
rises_by e a b = rw (step-up e a b) (diff_pos (det e b) (det e a), pos_diff (det e b) (det e a))

pub falls_by : (e a b : Vec ℤ) → (det e b <ℤ det e a) ↔ Side e false (sub b a)
falls_by e a b = rw (step-up e a b) (
  prove 2 (λ x y. y ≺ x ⇒ λ h. y ⊖ x ≺ num (pos 0) since hyp h) tt (det e a) (det e b),
  prove 2 (λ x y. y ⊖ x ≺ num (pos 0) ⇒ λ h. y ≺ x since hyp h) tt (det e a) (det e b),
)

-- ---- turns

-- a third vector of the plane by two, det(u,v) w + det(v,w) u = det(u,w) v, seen along e
seen_along : (e u v w : Vec ℤ) → det u w *ℤ det e v ≡ det u v *ℤ det e w +ℤ det v w *ℤ det e u
unfolding det
seen_along = solve² 4 (λ e u v w. let d = detᵒ exprs in d u w ⊗ d e v ≐ d u v ⊗ d e w ⊕ d v w ⊗ d e u) tt

-- a step that leads nowhere has no turn
pub still : (a v : Vec ℤ) → det (sub a a) v ≡ pos 0
unfolding det
still = solve² 2 (λ a v. detᵒ exprs (subᵒ exprs a a) v ≐ num (pos 0)) tt

-- a left turn, seen from the other side
pub turn-back : (u v : Vec ℤ) → pos 0 <ℤ det u v → det v u <ℤ pos 0
turn-back u v h = rw (det-skew u v) (neg-< (pos 0) (det u v) h)

module _ (e : Vec ℤ) where
  pub apart : (s : Bool) (u : Vec ℤ) → Side e s u → Side e (not s) u → ⊥
  apart true u h k = clash h (lt→le k)
  apart false u h k = clash h (lt→le k)

  -- the other way
  pub flip : (s : Bool) (u : Vec ℤ) → Side e s u → Side e (not s) (opp u)
  flip true u h = rw (det-opp_r e u) (neg-< (pos 0) (det e u) h)
  flip false u h = rw (det-opp_r e u) (neg-< (det e u) (pos 0) h)

  -- three steps up, two turns left: so is the turn from the first to the third
  turn_up : (u v w : Vec ℤ) → Side e true u → Side e true v → Side e true w → pos 0 ≤ℤ det u v → pos 0 <ℤ det v w → pos 0 <ℤ det u w
  turn_up u v w hu hv hw a b =
      not_le (λ c. never (prove 6 (λ uv vw uw eu ev ew. let o = num (pos 0) in
      uw ⊗ ev ≃ uv ⊗ ew ⊕ vw ⊗ eu ⇒ λ t. o ≺ eu ⇒ λ hu. o ≺ ev ⇒ λ hv. o ≺ ew ⇒ λ hw.
      o ≼ uv ⇒ λ a. o ≺ vw ⇒ λ b. uw ≼ o ⇒ λ c.
      num (pos 1) ≼ o since hyp a ⊠ hyp hw ⊞ hyp a ⊞ hyp b ⊠ hyp hu ⊞ hyp b ⊞ hyp hu ⊞ hyp c ⊠ hyp hv ⊞ hyp c ⊞ by (num (negsuc 0)) t)
      tt (det u v) (det v w) (det u w) (det e u) (det e v) (det e w) (seen_along e u v w) hu hv hw a b c))

  pub turn : (s : Bool) (u v w : Vec ℤ) → Side e s u → Side e s v → Side e s w → pos 0 ≤ℤ det u v → pos 0 <ℤ det v w → pos 0 <ℤ det u w
  turn true u v w hu hv hw a b = turn_up u v w hu hv hw a b
  turn false u v w hu hv hw a b =
      rw (det-opp u w) at (turn_up (opp u) (opp v) (opp w) (flip false u hu) (flip false v hv) (flip false w hw) (rw (det-opp u v) a) (rw (det-opp v w) b))

  -- one step on one side and two on the other, a turn not left and a turn left: the turn from the first to the third is right
  pub across : (s : Bool) (u v w : Vec ℤ) → Side e s u → Side e (not s) v → Side e (not s) w → det u v ≤ℤ pos 0
      → pos 0 <ℤ det v w → det u w <ℤ pos 0
  across s u v w hu hv hw a b =
      neg_neg-< (det u w) (rw (det-opp_l u w) at (turn (not s) (opp u) v w (flip s u hu) hv hw (rw (det-opp_l u v) (neg-≤ (det u v) a)) b))

  -- up by u and down by w with a left turn between: what lies left of both is down from there
  pub peak : (u w x : Vec ℤ) → Side e true u → Side e false w → pos 0 <ℤ det u w → pos 0 <ℤ det u x → pos 0 <ℤ det w x → Side e false x
  peak u w x hu hw d a b =
      not_le (λ c. never (prove 6 (λ uw ux xw eu ew ex. let o = num (pos 0) in
      uw ⊗ ex ≃ ux ⊗ ew ⊕ xw ⊗ eu ⇒ λ t. o ≺ eu ⇒ λ hu. ew ≺ o ⇒ λ hw. o ≺ uw ⇒ λ d.
      o ≺ ux ⇒ λ a. xw ≺ o ⇒ λ b. o ≼ ex ⇒ λ c.
      num (pos 1) ≼ o since hyp d ⊠ hyp c ⊞ hyp c ⊞ hyp a ⊠ hyp hw ⊞ hyp a ⊞ hyp hw ⊞
      hyp b ⊠ hyp hu ⊞ hyp b ⊞ hyp hu ⊞ by (num (pos 1)) t)
      tt (det u w) (det u x) (det x w) (det e u) (det e w) (det e x) (seen_along e u x w) hu hw d a (turn-back w x b) c))
