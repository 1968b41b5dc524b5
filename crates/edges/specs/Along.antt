-- A search and a count along the chain of a vertex: what the loop carries from link to link. Assumes nothing.
use Rattle.std.specs.Prelude.{◌≡◌, Bool, true, false, List, ℕ, ◌+◌, ◌-◌, ◌≤◌, ◌<◌, length}
use Rattle.std.proofs.Common.{arith}
use Rattle.whole.specs.Count.{bit, count_below, last_below}
use Rattle.tables.specs.Tables.{most_vertices, most_corners, from}
use Rattle.index.specs.Entries.{head_at, back_at}
use Rattle.index.specs.declared.Edge.{Edge}
use Rattle.edges.specs.Chains.{On, Within, Met, Unmet, falls, met_0, met_more, met_few, met_all, unmet_0, unmet_more, unmet_here, unmet_none}
use Rattle.edges.specs.Index.{Leaving}

-- the place of a link
pub link_place : {corners begins : List ℕ} {edges : List Edge} {heads : List ℕ} {v q : ℕ} → Leaving corners begins edges heads → On corners v q
    → 0 < q → (q - 1 < length corners) × (q - 1 < most_corners)
link_place L o h = (omega (arith, o.upto), omega (arith, o.upto, L.tables.laid.short))

-- f, which holds only at places that leave v, held at no place of the chain of v before link q
pub record Seeking (corners begins : List ℕ) (edges : List Edge) (heads : List ℕ) (v : ℕ) (f : ℕ → Bool) (q : ℕ) : Type 0 where
  pub leaving : Leaving corners begins edges heads
  pub within : Within corners v f
  pub unmet : Unmet corners v f q

pub seeking_0 : {corners begins : List ℕ} {edges : List Edge} {heads : List ℕ} {v : ℕ} {f : ℕ → Bool} → Leaving corners begins edges heads
    → Within corners v f → v < most_vertices → Seeking corners begins edges heads v f (head_at heads v)
seeking_0 L w l = record { leaving = L; within = w; unmet = unmet_0 L.chains w l }

module _ {corners begins : List ℕ} {edges : List Edge} {heads : List ℕ} {v : ℕ} {f : ℕ → Bool} {q : ℕ} (S : Seeking corners begins edges heads v f q) where
  module _ (h : 0 < q) where
    pub place-below : q - 1 < length corners
    place-below = (link_place S.leaving S.unmet.on h).0

    pub place-small : q - 1 < most_corners
    place-small = (link_place S.leaving S.unmet.on h).1

    pub place-leaves : from corners (q - 1) ≡ v
    place-leaves = S.unmet.on.leads h

    pub link_falls : back_at edges (q - 1) < q
    link_falls = falls S.leaving.chains h S.unmet.on

    pub seeking_more : f (q - 1) ≡ false → Seeking corners begins edges heads v f (back_at edges (q - 1))
    seeking_more e = record { leaving = S.leaving; within = S.within; unmet = unmet_more S.leaving.chains S.within h S.unmet e }

    pub seeking_here : f (q - 1) ≡ true → q ≡ last_below f (length corners)
    seeking_here e = unmet_here S.unmet h e

  pub seeking_none : q ≤ 0 → 0 ≡ last_below f (length corners)
  seeking_none l = unmet_none S.unmet l

-- f held at n places of the chain of v before link q
pub record Counting (corners begins : List ℕ) (edges : List Edge) (heads : List ℕ) (v : ℕ) (f : ℕ → Bool) (n q : ℕ) : Type 0 where
  pub leaving : Leaving corners begins edges heads
  pub within : Within corners v f
  pub met : Met corners v f n q

pub counting_0 : {corners begins : List ℕ} {edges : List Edge} {heads : List ℕ} {v : ℕ} {f : ℕ → Bool} → Leaving corners begins edges heads
    → Within corners v f → v < most_vertices → Counting corners begins edges heads v f 0 (head_at heads v)
counting_0 L w l = record { leaving = L; within = w; met = met_0 L.chains w l }

module _ {corners begins : List ℕ} {edges : List Edge} {heads : List ℕ} {v : ℕ} {f : ℕ → Bool} {n q : ℕ}
    (S : Counting corners begins edges heads v f n q) where
  module _ (h : 0 < q) where
    pub counted_below : q - 1 < length corners
    counted_below = (link_place S.leaving S.met.on h).0

    pub counted_leaves : from corners (q - 1) ≡ v
    counted_leaves = S.met.on.leads h

    pub counted_falls : back_at edges (q - 1) < q
    counted_falls = falls S.leaving.chains h S.met.on

    pub counting_more : {b : ℕ} → b ≡ bit (f (q - 1)) → Counting corners begins edges heads v f (n + b) (back_at edges (q - 1))
    counting_more e = record { leaving = S.leaving; within = S.within; met = met_more S.leaving.chains S.within h S.met e }

  pub counting_few : n ≤ most_corners
  counting_few = omega (arith, met_few S.met, S.leaving.tables.laid.short)

  pub counting_all : q ≤ 0 → n ≡ count_below f (length corners)
  counting_all l = met_all S.met l
