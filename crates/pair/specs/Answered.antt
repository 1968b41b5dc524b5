-- PAIR by its answer: where every place is across from the place across from it, PAIR applies nowhere. Assumes nothing.
use Rattle.std.specs.Prelude.{◌≡◌, Bool, false, not, ◌||◌, List, ℕ, ◌<◌, eqb, length, None}
use Rattle.std.proofs.Common.{sym, ap, ◌∙◌, eqb-true}
use Rattle.std.proofs.lemmas.Bool.{not-false}
use Rattle.whole.specs.First.{any_below, any_false}
use Rattle.whole.specs.Count.{neither}
use Rattle.tables.specs.Tables.{from, to}
use Rattle.tables.specs.Size.{Laid}
use Rattle.tables.specs.Search.{place_of}
use Rattle.index.specs.Entries.{end_at, across_at}
use Rattle.index.specs.declared.Edge.{Edge}
use Rattle.edges.specs.Edge.{across_of, across_below}
use Rattle.edges.specs.Index.{Indexed, end_is, across_at-is, across_at-below}
use Rattle.pair.specs.Pair.{pair}
use Rattle.pair.specs.Across.{Reverse, Matched, means_pair}

-- q isn't a place of the reverse of the edge at p, or has another place across from it
abbrev pub unlike : List ℕ → List ℕ → ℕ → ℕ → Bool
unlike corners begins p q =
    not (eqb (across_of corners begins q) p) || (not (eqb (from corners q) (to corners begins p)) || not (eqb (to corners begins q) (from corners p)))

abbrev pub unanswered : List ℕ → List ℕ → ℕ → Bool
unanswered corners begins p = unlike corners begins p (across_of corners begins p)

-- what the code reads
pub unlike-entry : {corners begins : List ℕ} {edges : List Edge} {heads : List ℕ} {p q : ℕ} → Indexed corners begins edges heads → p < length corners
    → q ≡ across_at edges p
    → unanswered corners begins p
    ≡ (not (eqb (across_at edges q) p) || (not (eqb (from corners q) (end_at edges p)) || not (eqb (end_at edges q) (from corners p))))
unlike-entry {corners = corners} {q = q} I l e =
    let b : q < length corners = rw e (across_at-below I l) in
    rw (across_at-is I b, end_is I b, end_is I l, e ∙ across_at-is I l)

-- the place across depends on the edge alone
same-across : (corners begins : List ℕ) (p q : ℕ) → from corners p ≡ from corners q → to corners begins p ≡ to corners begins q
    → across_of corners begins p ≡ across_of corners begins q
unfolding across_of
same-across corners begins p q s e = rw (s, e)

module _ {corners begins : List ℕ} (h : any_below (unanswered corners begins) (length corners) ≡ false) where
  answered : {p : ℕ} → p < length corners → Reverse corners begins p (across_of corners begins p) × (across_of corners begins (across_of corners begins p) ≡ p)
  answered {p} l =
      let (t, r) = neither _ _ (any_false (unanswered corners begins) (length corners) h p l) in
      let (s, e) = neither _ _ r in (
        record { below = across_below corners begins l; starts = eqb-true _ _ (not-false _ s); ends = eqb-true _ _ (not-false _ e) },
        eqb-true _ _ (not-false _ t),
      )

  matched : Matched corners begins
  matched = record {
    once = λ p q l m s e. sym (answered l).1 ∙ ap (across_of corners begins) (same-across corners begins p q s e) ∙ (answered m).1;
    reverse = λ p l. (_, (answered l).0);
  }

  pub all_answered : Laid corners begins → place_of (pair corners begins) ≡ None
  all_answered L = means_pair L matched
