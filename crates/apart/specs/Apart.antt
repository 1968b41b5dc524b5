-- Number 8, APART: "facet can't be reached from facet 0 across edges". Assumes nothing.
use Rattle.std.specs.Prelude.{◌≡◌, Bool, true, not, List, ℕ, ◌<◌, length, None}
use Rattle.std.proofs.Common.{ap, arith}
use Rattle.std.proofs.lemmas.Bool.{not-false}
use Rattle.whole.specs.Rounds as Rounds
use Rattle.whole.specs.Rounds.{rounds, at, only, all}
use Rattle.tables.specs.Tables.{facets, home_of}
use Rattle.tables.specs.Size.{Laid}
use Rattle.tables.specs.Places.{home}
use Rattle.tables.specs.Found.{nowhere_is}
use Rattle.tables.specs.Search.{Search, of_each, place_of, applies_never}
use Rattle.edges.specs.Edge.{facet_across}
use Rattle.pair.specs.Pair.{Paired}
use Rattle.pair.specs.Across.{across}

-- the facets that flooding marks: facet 0, and in each of F rounds the facets across the edges of those marked
unfoldable pub flooded : List ℕ → List ℕ → List Bool
flooded corners begins = rounds (length corners) (facets begins) (home_of begins) (facet_across corners begins) (facets begins)

abbrev pub is_apart : List ℕ → List ℕ → ℕ → Bool
is_apart corners begins f = not (at (flooded corners begins) f)

abbrev pub apart : List ℕ → List ℕ → Search
apart corners begins = of_each (facets begins) (is_apart corners begins)

-- ---- the meaning

-- facet f is reached from facet 0 across edges: 0 is, and so is the facet across each edge of one that is
abbrev pub Reached : List ℕ → List ℕ → ℕ → Type 0
Reached corners begins = Rounds.Reached (length corners) (home_of begins) (facet_across corners begins)

module _ {corners begins : List ℕ} (L : Laid corners begins) (P : Paired corners begins) where
  pub across_facet : (p : ℕ) → p < length corners → facet_across corners begins p < facets begins
  across_facet p l = omega (arith, (home L (across P l).below).facet)

  pub some_facet : 0 < facets begins
  some_facet = omega (arith, L.some)

  pub flooded-all : {f : ℕ} → Reached corners begins f → at (flooded corners begins) f ≡ true
  unfolding flooded
  flooded-all r = all (length corners) (facets begins) (home_of begins) (facet_across corners begins) across_facet some_facet r

  pub flooded-only : {f : ℕ} → at (flooded corners begins) f ≡ true → Reached corners begins f
  unfolding flooded
  flooded-only e = only (length corners) (facets begins) (home_of begins) (facet_across corners begins) across_facet e

  -- APART finds nothing exactly where every facet is reached
  pub apart-means : place_of (apart corners begins) ≡ None → (f : ℕ) → f < facets begins → Reached corners begins f
  apart-means e f l = flooded-only (not-false _ (applies_never (apart corners begins) e f l))

  pub means_apart : ((f : ℕ) → f < facets begins → Reached corners begins f) → place_of (apart corners begins) ≡ None
  means_apart h = nowhere_is (λ f l. ap not (flooded-all (h f l)))
