-- A table of marks, one for each vertex, after the first i corners of the corners were marked. Assumes nothing.
use Rattle.std.specs.Prelude.{◌≡◌, refl, Bool, true, false, not, ◌||◌, List, ℕ, ◌+◌, ◌<◌, eqb, length, get_or, set, replicate}
use Rattle.std.proofs.Common.{sym, ap, ◌∙◌, length-set, get_or-set_same, get_or-set_other, eqb-true}
use Rattle.std.proofs.Math.Bool.{or-true, or-false}
use Rattle.std.proofs.lemmas.List.{length-replicate, get_or-replicate}
use Rattle.std.proofs.lemmas.Bool.{eqb-false}
use Rattle.whole.specs.First.{first_below, any_below, any_more}
use Rattle.tables.specs.Tables.{most_vertices}
use Rattle.names.specs.Rules.{is_at, unnamed}

pub record Marks (corners : List ℕ) (named : List Bool) (i : ℕ) : Type 0 where
  pub long : length named ≡ most_vertices
  pub mark : (v : ℕ) → v < most_vertices → get_or named v false ≡ any_below (is_at corners v) i

pub marks_0 : (corners : List ℕ) → Marks corners (replicate most_vertices false) 0
unfolding first_below
marks_0 corners = record { long = length-replicate {A = Bool} most_vertices false; mark = λ v l. get_or-replicate most_vertices v false false l }

-- a mark at x, by whether x is v
marked : (named : List Bool) (x v : ℕ) (b t : Bool) → x < length named → eqb x v ≡ t → get_or named v false ≡ b
    → get_or (set named x true) v false ≡ (b || t)
marked named x v b true l e m = rw (or-true b, ← eqb-true x v e) (get_or-set_same named x true false l)
marked named x v b false l e m = rw or-false (get_or-set_other named x v true false (λ q. eqb-false x v e (sym q)) ∙ m)

pub marks_more : {corners : List ℕ} {named : List Bool} {i : ℕ} → Marks corners named i → get_or corners i 0 < most_vertices
    → Marks corners (set named (get_or corners i 0) true) (i + 1)
marks_more {corners} {named} {i} m b =
    let x = get_or corners i 0 in
    let l : x < length named = rw m.long b in
    record {
      long = length-set named x true ∙ m.long;
      mark = λ v h. rw any_more (marked named x v (any_below (is_at corners v) i) (eqb x v) l refl (m.mark v h));
    }

-- what a mark says
pub unmarked : {corners : List ℕ} {named : List Bool} → Marks corners named (length corners) → (v : ℕ) → v < most_vertices
    → not (get_or named v false) ≡ unnamed corners v
unmarked m v l = ap not (m.mark v l)
