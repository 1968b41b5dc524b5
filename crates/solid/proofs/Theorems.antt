-- The theorems on a solid's tables, for demands 2 and 3. Assumes nothing.
use Rattle.std.specs.Prelude.{◌≡◌, refl, ◌≢◌, ◌↔◌, ℕ, ◌<◌, ℤ, pos, ◌≤ℤ◌, ◌<ℤ◌}
use Rattle.std.proofs.Common.{sym, ◌∙◌}
use Rattle.whole.specs.Order.{eq→le}
use Rattle.space.specs.Vec.{Vec}
use Rattle.space.specs.Vectors.{◌-ᵛ◌, ◌·◌}
use Rattle.solid.specs.Surface.{Surface, not_above, touches}
use Rattle.solid.specs.Solid.{Solid}
use Rattle.solid.specs.Local.{Local}
use Rattle.solid.specs.Reflex as Lemma-R
use Rattle.solid.proofs.Cone as L8
use Rattle.solid.specs.TrueCorner as T-12
use Rattle.solid.proofs.LocalGlobal as Local-global
use Rattle.solid.specs.Tables.{Tables, Place, Corner, Sized, Ranged, Closed, Flat, Outside, Convex, Reflex, Neighbours, OnPlane, next, normal, volume}
use Rattle.solid.proofs.Places.{surface, solid, near, whole, is_vertex, first_corner, next_place, volume-is}

module _ {t : Tables} (S : Sized t) where
  open t use {vertices, facets, corner, at}

  -- local convexity makes the whole convex: N does the work of OUTSIDE
  pub local_global : {limit : ℕ} → Ranged t limit → Closed t → Flat t → Reflex t → Neighbours t → Outside t
  local_global {limit} A C B R N =
      let L : Local (surface t S C B) = record { near = near t S C B R N; whole = whole t S C B; limit = limit; in_box = λ c. A.range _ (is_vertex t S c) } in
      record { inside = λ f w hf hw out. rw (← volume-is) (Local-global.inside L (first_corner t S hf) (C.used w hw).1 out) }

  -- and where N fails, OUTSIDE does
  pub neighbours : Outside t → Neighbours t
  neighbours O = record { neighbour = λ p q s out. O.inside _ _ p.facet (S.index (next_place t q)) out }

  module _ (C : Convex t) where
    open C use {closed, flat, outside}
    open closed use {used}

    abbrev M : Surface ℕ ℕ
    M = surface t S closed flat

    body : Solid M
    body = solid t S closed flat outside

    -- Lemma R: REFLEX refuses no convex solid
    pub no_reflex : Reflex t
    no_reflex = record {
      reflex = λ p q s z k ca cb. rw (← volume-is) ((Lemma-R.near body).reflex (record { i = _; place = p; from = refl; to = refl })
          (record { i = _; place = q; from = s; to = z }) (record { i = _; place = k; names = refl }) ca cb);
    }

    -- L3: each vertex is on or inside each facet's plane, and on it exactly when it is a corner
    pub on_or_inside : (f w : ℕ) → f < facets → w < vertices → volume t f w ≤ℤ pos 0
    on_or_inside f w hf hw = rw (← volume-is) (not_above M (first_corner t S hf) (body.inside (first_corner t S hf) (used w hw).1))

    pub on_exactly : (f w : ℕ) → f < facets → w < vertices → OnPlane t f w ↔ Corner t f w
    on_exactly f w hf hw = (
      λ e. touches M (first_corner t S hf) (body.inside (first_corner t S hf) (used w hw).1) (eq→le (sym (volume-is t f w ∙ e))),
      λ c. sym (volume-is t f w) ∙ M.flat c,
    )

    -- L8: x is any vector that leads from v above no facet's plane there, and no neighbour of v is above it along d
    pub cone : (v : ℕ) → v < vertices → (x d : Vec ℤ) → ((f i : ℕ) → Place t f i → corner f i ≡ v → normal t f · x ≤ℤ pos 0)
        → ((f i : ℕ) → Place t f i → corner f i ≡ v → d · (at (next t f i) -ᵛ at v) ≤ℤ pos 0) → d · x ≤ℤ pos 0
    cone v hv x d below low = L8.cone (Lemma-R.near body) (used v hv).1 x d (λ f c. below f c.i c.place c.names)
        (λ f w e. rw (← e.to) (low f e.i e.place e.from))

    -- demand 3: where no neighbour of v is higher, no vertex is
    pub highest : (d : Vec ℤ) (v : ℕ) → v < vertices → ((f i : ℕ) → Place t f i → corner f i ≡ v → d · at (next t f i) ≤ℤ d · at v)
        → (w : ℕ) → w < vertices → d · at w ≤ℤ d · at v
    highest d v hv low w hw = L8.local_is_global body d (used v hv).1 (λ f u e. rw (← e.to) (low f e.i e.place e.from)) (used w hw).1

    -- T-12: each vertex is strictly higher than every other in some direction, so no two lie at one point
    pub true_corner : (v : ℕ) → v < vertices → (d : Vec ℤ) × ((w : ℕ) → w < vertices → w ≢ v → d · at w <ℤ d · at v)
    true_corner v hv =
        let (d, top) = T-12.true_corner body (used v hv).1 in
        (d, λ w hw. top (used w hw).0 w (used w hw).1)

    pub one_point : (v w : ℕ) → v < vertices → w < vertices → at v ≡ at w → v ≡ w
    one_point v w hv hw = T-12.one_point body (used v hv).1 (used w hw).1
