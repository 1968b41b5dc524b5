-- Numbers 4 and 5, REPEAT and UNUSED, each by its row of the sheet's table.
use Rattle.std.specs.Prelude.{◌≡◌, refl, Bool, not, ◌||◌, List, ℕ, zero, suc, ◌+◌, ◌≤◌, eqb, length, get_or, take}
use Rattle.std.specs.List.{list_any}
use Rattle.std.proofs.Common.{sym, ap, ◌∙◌, subst, arith}
use Rattle.std.proofs.lemmas.List.Folds.{list_any_more}
use Rattle.whole.specs.First.{first_below, any_below, any_more}
use Rattle.tables.specs.Search.{Search, of_each}
use Rattle.tables.specs.Facets.{in_facets}

-- v stands at position p of a part, and the corner at p stands at an earlier position too
abbrev pub is_at : List ℕ → ℕ → ℕ → Bool
is_at part v p = eqb (get_or part p 0) v

abbrev pub again : List ℕ → ℕ → Bool
again part p = any_below (is_at part (get_or part p 0)) p

-- "a facet names a vertex again", at the position of the repeat
abbrev pub repeat : List ℕ → List ℕ → Search
repeat corners begins = in_facets corners begins again

-- "no facet names this vertex"
abbrev pub unnamed : List ℕ → ℕ → Bool
unnamed corners v = not (any_below (is_at corners v) (length corners))

abbrev pub unused : ℕ → List ℕ → Search
unused n corners = of_each n (unnamed corners)

-- v stands among the first n of a part, as `contains` says it
pub among_first : (part : List ℕ) (v n : ℕ) → n ≤ length part → list_any (λ x. eqb x v) (take n part) ≡ any_below (is_at part v) n
unfolding first_below
among_first part v zero l = refl
among_first part v (suc n) l =
    let next = list_any_more (λ x. eqb x v) part n 0 (omega arith) ∙ ap (λ b. b || is_at part v n) (among_first part v n (omega arith)) in
    let e : n + 1 ≡ suc n = omega arith in
    subst (λ k. list_any (λ x. eqb x v) (take k part) ≡ any_below (is_at part v) k) e (next ∙ sym (any_more (is_at part v) n))
