-- 8, APART: "facet can't be reached from facet 0 across edges". In tables that pass 1 to 7 it names exactly the lowest such facet. Assumes nothing.
use Rattle.std.specs.Prelude.{◌≡◌, refl, ◌↔◌, not, List, ℕ, ◌<◌, ℤ, Some}
use Rattle.std.proofs.Common.{sym, ap, ◌∙◌, true≢false, arith}
use Rattle.std.proofs.lemmas.Bool.{not-true, not-false}
use Rattle.whole.specs.Count.{is_false}
use Rattle.tables.specs.Tables.{facets}
use Rattle.points.specs.Points.{vertices}
use Rattle.tables.specs.Size.{Laid}
use Rattle.tables.specs.Places.{Sound}
use Rattle.tables.specs.Search.{place_of, applies_first, first_applies}
use Rattle.answers.specs.Answer.{fault}
use Rattle.pair.specs.Pair.{Paired}
use Rattle.apart.specs.Apart.{apart, Reached as Flood, flooded-all, flooded-only, apart-means}
use Rattle.bridge.proofs.Closed.{linked, unlinked}
use Rattle.stages.specs.Known.{measured}
use Rattle.judge.specs.Judge.{judged}
use Rattle.accepts.specs.Numbers.{Pass, some_place, answered_exactly, number_exactly, in_order, paired}
use Rattle.accepts.specs.Apart.{Reached as ReachedIn, Apart as ApartIn}

module _ (points : List ℤ) (corners begins : List ℕ) where
  abbrev pub Reached : ℕ → Type 0
  Reached = ReachedIn points corners begins

  abbrev pub Apart : ℕ → Type 0
  Apart = ApartIn points corners begins

  module _ (P : Pass points corners begins 8) where
    S : Sound (vertices points) corners begins
    S = (measured (in_order points corners begins P (omega arith))).sound

    L : Laid corners begins
    L = S.laid

    M : Paired corners begins
    M = paired points corners begins P (omega arith)

    -- the flooding reaches what can be reached, and only that
    reached : {f : ℕ} → Flood corners begins f → Reached f
    reached = linked points S M

    flood : {f : ℕ} → Reached f → Flood corners begins f
    flood = unlinked points S M

    pub apart_exactly : (f : ℕ) → place_of (apart corners begins) ≡ Some (f, 0) ↔ Apart f
    apart_exactly f = (
      λ e.
          let (h, z) = applies_first (apart corners begins) e in
          record {
            facet = h.below;
            apart = λ r. true≢false (sym (flooded-all L M (flood r)) ∙ not-true _ h.holds);
            lower = λ g l. reached (flooded-only L M (not-false _ (h.before g (omega arith))));
          },
      λ a. first_applies (apart corners begins) (
        record {
          below = a.facet;
          holds = ap not (is_false _ (λ e. a.apart (reached (flooded-only L M e))));
          before = λ g l. ap not (flooded-all L M (flood (a.lower g l)));
        },
        refl,
      ),
    )

    -- where a facet can't be reached, some facet is named
    named : {f : ℕ} → f < facets begins → ¬ Reached f → (a b : ℕ) × (place_of (apart corners begins) ≡ Some (a, b))
    named {f} l n = some_place (λ e. n (reached (apart-means L M e f l)))

  -- the judge answers 8 exactly when the tables pass 1 to 7 and some facet can't be reached ..
  pub number_apart : (judged points corners begins).number ≡ 8 ↔ (Pass points corners begins 8 × (f : ℕ) × (f < facets begins) × (¬ Reached f))
  number_apart =
      let (to, back) = number_exactly points corners begins 8 (omega arith) in (
        λ e. let (P, f, b, h) = to e in let a = (apart_exactly P f).0 (rw (applies_first (apart corners begins) h).1 at h) in (P, f, a.facet, a.apart),
        λ (P, f, l, n). let (a, b, h) = named P l n in back (P, a, b, h),
      )

  -- .. and names f exactly when it is the lowest of them
  pub judged-apart : (f : ℕ) → judged points corners begins ≡ fault 8 f 0 ↔ (Pass points corners begins 8 × Apart f)
  judged-apart f =
      let (to, back) = answered_exactly points corners begins 8 (omega arith) f 0 in
      (λ e. let (P, a) = to e in (P, (apart_exactly P f).0 a), λ (P, a). back (P, (apart_exactly P f).1 a))
