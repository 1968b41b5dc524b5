-- The index of the edges by the vertex that they leave: chains of places, each linked to the earlier one. Assumes nothing.
-- A link is one more than a place, and 0 ends the chain.
use Rattle.std.specs.Prelude.{◌≡◌, Bool, true, false, List, ℕ, ◌+◌, ◌-◌, ◌≤◌, ◌<◌, eqb, length}
use Rattle.std.proofs.Common.{sym, ◌∙◌, eqb-true}
use Rattle.std.proofs.Math.Path.{ap}
use native.Mathlib.Omega.{arith}
use Rattle.whole.specs.Count.{bit, count_below, count-more, count-le, last_below, Last, last as lastPlace, last_more, Alike, gap}
use Rattle.tables.specs.Tables.{most_vertices, from}
use Rattle.index.specs.Entries.{head_at, back_at}
use Rattle.index.specs.declared.Edge.{Edge}

-- the edge at place p leaves v
abbrev pub leaves : List ℕ → ℕ → ℕ → Bool
leaves corners v p = eqb (from corners p) v

-- the chain of v begins at the last of the places below n that leave it
abbrev pub last_of : List ℕ → ℕ → ℕ → ℕ
last_of corners n v = last_below (leaves corners v) n

-- the place before p in its chain: the last of the places below p that leave the same vertex
abbrev pub back_of : List ℕ → ℕ → ℕ
back_of corners p = last_of corners p (from corners p)

-- the chains of the places below n, in the index's two tables
pub record Chains (corners : List ℕ) (edges : List Edge) (heads : List ℕ) (n : ℕ) : Type 0 where
  pub firsts : (v : ℕ) → v < most_vertices → head_at heads v ≡ last_of corners n v
  pub links : (p : ℕ) → p < n → back_at edges p ≡ back_of corners p

-- ---- along a chain

-- q is a link of the chain of v: one more than a place that leaves v, or 0
pub record On (corners : List ℕ) (v q : ℕ) : Type 0 where
  pub upto : q ≤ length corners
  pub leads : 0 < q → from corners (q - 1) ≡ v

module _ {corners : List ℕ} {edges : List Edge} {heads : List ℕ} (C : Chains corners edges heads (length corners)) {v : ℕ} where
  module _ (l : v < most_vertices) where
    head_last : Last (leaves corners v) (length corners) (head_at heads v)
    head_last = rw (C.firsts v l) (lastPlace (leaves corners v) (length corners))

    pub on_0 : On corners v (head_at heads v)
    on_0 = record { upto = head_last.upto; leads = λ h. eqb-true _ v (head_last.holds (head_at heads v - 1) (omega arith)) }

    -- no place after the first link leaves v
    pub gap_0 : (p : ℕ) → head_at heads v ≤ p → p < length corners → leaves corners v p ≡ false
    gap_0 = head_last.gap

  module _ {q : ℕ} (h : 0 < q) (o : On corners v q) where
    link_last : Last (leaves corners v) (q - 1) (back_at edges (q - 1))
    link_last = rw (C.links (q - 1) (omega (arith, o.upto)), o.leads h) (lastPlace (leaves corners v) (q - 1))

    pub on_more : On corners v (back_at edges (q - 1))
    on_more = record { upto = omega (arith, link_last.upto, o.upto); leads = λ k. eqb-true _ v (link_last.holds (back_at edges (q - 1) - 1) (omega arith)) }

    pub falls : back_at edges (q - 1) < q
    falls = omega (arith, link_last.upto)

    -- no place between a link's and the next link's leaves v
    pub gap_more : (p : ℕ) → back_at edges (q - 1) ≤ p → p < q - 1 → leaves corners v p ≡ false
    gap_more = link_last.gap

-- ---- a test that holds only at places that leave v, along the chain of v

abbrev pub Within : List ℕ → ℕ → (ℕ → Bool) → Type 0
Within corners v f = (p : ℕ) → leaves corners v p ≡ false → f p ≡ false

-- it held at n places before link q
pub record Met (corners : List ℕ) (v : ℕ) (f : ℕ → Bool) (n q : ℕ) : Type 0 where
  pub on : On corners v q
  pub sum : n + count_below f q ≡ count_below f (length corners)

-- it held at none
pub record Unmet (corners : List ℕ) (v : ℕ) (f : ℕ → Bool) (q : ℕ) : Type 0 where
  pub on : On corners v q
  pub rest : last_below f q ≡ last_below f (length corners)

module _ {corners : List ℕ} {edges : List Edge} {heads : List ℕ} (C : Chains corners edges heads (length corners))
    {v : ℕ} {f : ℕ → Bool} (w : Within corners v f) where
  alike_0 : v < most_vertices → Alike f (head_at heads v) (length corners)
  alike_0 l = gap f (head_at heads v) (length corners) (on_0 C l).upto (λ p a b. w p (gap_0 C l p a b))

  alike_more : {q : ℕ} → 0 < q → On corners v q → Alike f (back_at edges (q - 1)) (q - 1)
  alike_more {q} h o = gap f (back_at edges (q - 1)) (q - 1) (omega (arith, falls C h o)) (λ p a b. w p (gap_more C h o p a b))

  pub met_0 : v < most_vertices → Met corners v f 0 (head_at heads v)
  met_0 l = record { on = on_0 C l; sum = omega (arith, (alike_0 l).count) }

  pub met_more : {n q b : ℕ} → 0 < q → Met corners v f n q → b ≡ bit (f (q - 1)) → Met corners v f (n + b) (back_at edges (q - 1))
  met_more {n} {q} h m e =
      let s : q ≡ q - 1 + 1 = omega arith in
      let c = ap (count_below f) s ∙ count-more f (q - 1) in
      record { on = on_more C h m.on; sum = omega (arith, c, e, (alike_more h m.on).count, m.sum) }

  pub unmet_0 : v < most_vertices → Unmet corners v f (head_at heads v)
  unmet_0 l = record { on = on_0 C l; rest = sym (alike_0 l).last }

  pub unmet_more : {q : ℕ} → 0 < q → Unmet corners v f q → f (q - 1) ≡ false → Unmet corners v f (back_at edges (q - 1))
  unmet_more {q} h u e =
      let z : q - 1 + 1 ≡ q = omega arith in
      let m = rw e at (last_more f (q - 1)) in
      record { on = on_more C h u.on; rest = sym (alike_more h u.on).last ∙ sym m ∙ ap (last_below f) z ∙ u.rest }

module _ {corners : List ℕ} {v : ℕ} {f : ℕ → Bool} {n q : ℕ} (m : Met corners v f n q) where
  pub met_few : n ≤ length corners
  met_few = omega (arith, m.sum, count-le f (length corners))

  pub met_all : q ≤ 0 → n ≡ count_below f (length corners)
  unfolding count_below
  met_all l = let z : q ≡ 0 = omega arith in omega (arith, m.sum, ap (count_below f) z)

module _ {corners : List ℕ} {v : ℕ} {f : ℕ → Bool} {q : ℕ} (u : Unmet corners v f q) where
  pub unmet_here : 0 < q → f (q - 1) ≡ true → q ≡ last_below f (length corners)
  unmet_here h e =
      let z : q - 1 + 1 ≡ q = omega arith in
      let k = rw e at (last_more f (q - 1)) in
      sym z ∙ sym k ∙ ap (last_below f) z ∙ u.rest

  pub unmet_none : q ≤ 0 → 0 ≡ last_below f (length corners)
  unfolding last_below
  unmet_none l = let z : q ≡ 0 = omega arith in rw z at u.rest
