-- The code's flooding from facet 0: what the marks and the queue hold before, in and after the visit of each facet. Assumes nothing.
use Rattle.std.specs.Prelude.{◌≡◌, refl, Bool, true, false, not, List, ℕ, ◌+◌, ◌-◌, ◌≤◌, ◌<◌, length}
use Rattle.std.proofs.Common.{sym, ap, ◌∙◌, arith}
use Rattle.whole.specs.Rounds as Rounds
use Rattle.whole.specs.Rounds.{at, first, arc}
use Rattle.whole.specs.Flood.{entry_at, marked, Unmarked, Queue, Pushing, Push, Spread, Flood, Flooded, SameArcs, queue_0, tail_le, pushing, push}
use Rattle.whole.specs.Flood.{spread-more, flood_0, flood_more, flood_end, flooded-same}
use Rattle.tables.specs.Tables.{most_facets, most_corners, facets, begin, end, home_of}
use Rattle.tables.specs.Places.{In, home_is as Home-of, in_facet}
use Rattle.index.specs.Entries.{home_at, across_at}
use Rattle.index.specs.declared.Edge.{Edge}
use Rattle.edges.specs.Edge.{facet_across}
use Rattle.edges.specs.Index.{small, home_is, home_at-in}
use Rattle.pair.specs.Across.{Crossed, across_small, facet_across_lem}
use Rattle.apart.specs.Apart.{flooded, is_apart, across_facet, some_facet, flooded-all, flooded-only}

-- ---- reached by the index and the begins alone, so that a visit needs no corners

-- the last of the begins
abbrev pub run_length : List ℕ → ℕ
run_length begins = begin begins (facets begins)

-- the facet across the edge at place p
abbrev pub facet_across_at : List Edge → ℕ → ℕ
facet_across_at edges p = home_at edges (across_at edges p)

abbrev pub ReachedAt : List ℕ → List Edge → ℕ → Type 0
ReachedAt begins edges = Rounds.Reached (run_length begins) (home_at edges) (facet_across_at edges)

-- the queue holds the marked facets, and all are reached
abbrev pub Queued : List ℕ → List Edge → List Bool → List ℕ → ℕ → Type 0
Queued begins edges = Queue most_facets (facets begins) (ReachedAt begins edges)

module _ {corners begins : List ℕ} {edges : List Edge} {heads : List ℕ} (C : Crossed corners begins edges heads) where
  some : 0 < facets begins
  some = some_facet C.indexed.tables.laid C.paired

  few : facets begins ≤ most_facets
  few = omega (arith, C.indexed.tables.laid.most)

  in_run : {p : ℕ} → p < run_length begins → p < length corners
  in_run l = omega (arith, C.indexed.tables.laid.finish)

  across_below : (p : ℕ) → p < run_length begins → facet_across_at edges p < facets begins
  across_below p l = rw (facet_across_lem C (in_run l)) (across_facet C.indexed.tables.laid C.paired p (in_run l))

-- ---- the visit of a facet

-- facet f, one of these, is visited
pub record Visit (begins : List ℕ) (edges : List Edge) (marks : List Bool) (queue : List ℕ) (tail f : ℕ) : Type 0 where
  pub corners : List ℕ
  pub heads : List ℕ
  pub crossed : Crossed corners begins edges heads
  pub queued : Queued begins edges marks queue tail
  pub facet : f < facets begins
  pub reached : ReachedAt begins edges f

-- the facets across its edges at the places before p were pushed
abbrev pub Spreading : List ℕ → List Edge → ℕ → ℕ → List Bool → List ℕ → ℕ → List Bool → List ℕ → ℕ → Type 0
Spreading begins edges f p = Spread most_facets (facets begins) (ReachedAt begins edges) (facet_across_at edges) (begin begins f) p

-- the loop over its places, up to `last`
pub record Visiting (begins : List ℕ) (edges : List Edge) (marks : List Bool) (queue : List ℕ) (tail f last : ℕ)
    (marks' : List Bool) (queue' : List ℕ) (n p : ℕ) : Type 0 where
  pub visit : Visit begins edges marks queue tail f
  pub ends : last ≡ end begins f
  pub low : begin begins f ≤ p
  pub high : p ≤ last
  pub spread : Spreading begins edges f p marks queue tail marks' queue' n

module _ {begins : List ℕ} {edges : List Edge} {marks : List Bool} {queue : List ℕ} {tail f last : ℕ} where
  module _ {marks' : List Bool} {queue' : List ℕ} {n p : ℕ} (S : Visiting begins edges marks queue tail f last marks' queue' n p) where
    module _ (l : p < last) where
      is_in : In begins f p
      is_in = record { facet = omega (arith, S.visit.facet); low = S.low; high = omega (arith, S.ends) }

      below : p < length S.visit.corners
      below = in_facet S.visit.crossed.indexed.tables.laid is_in

      pub visit_small : p < most_corners
      visit_small = small S.visit.crossed.indexed below

      from_here : home_at edges p ≡ f
      from_here = home_is S.visit.crossed.indexed below ∙ sym (Home-of S.visit.crossed.indexed.tables.laid is_in)

      below_run : p < run_length begins
      below_run = omega (arith, below, S.visit.crossed.indexed.tables.laid.finish)

      module _ {q : ℕ} (e : q ≡ across_at edges p) where
        pub visit_across : q < most_corners
        visit_across = rw e (across_small S.visit.crossed below)

        module _ {g : ℕ} (h : g ≡ home_at edges q) where
          is : g ≡ facet_across_at edges p
          is = h ∙ ap (home_at edges) e

          facet_below : g < facets begins
          facet_below = rw is (across_below S.visit.crossed p below_run)

          pub visit_pushing : Pushing most_facets marks' n g
          visit_pushing = pushing S.spread.queued facet_below

          -- the facet across is reached
          reached : ReachedAt begins edges g
          reached = rw is (arc {p = p} (rw from_here S.visit.reached) below_run)

          pub visiting_more : {marks'' : List Bool} {queue'' : List ℕ} {n' : ℕ} → Push marks' queue' n g marks'' queue'' n'
              → Visiting begins edges marks queue tail f last marks'' queue'' n' (p + 1)
          visiting_more P = record {
            visit = S.visit;
            ends = S.ends;
            low = omega (arith, S.low);
            high = omega arith;
            spread = spread-more S.spread (rw is at (push S.spread.queued facet_below reached P));
          }

-- ---- the visits

-- a mark at each facet that is reached
abbrev pub ReachMarks : List ℕ → List ℕ → List Bool → Type 0
ReachMarks corners begins = Flooded (length corners) (facets begins) (home_of begins) (facet_across corners begins)

-- the queue's first `head` facets were visited
pub record Reaching (corners begins : List ℕ) (edges : List Edge) (heads : List ℕ) (marks : List Bool) (queue : List ℕ)
    (head tail : ℕ) : Type 0 where
  pub crossed : Crossed corners begins edges heads
  pub flood : Flood most_facets (run_length begins) (facets begins) (home_at edges) (facet_across_at edges) marks queue head tail

module _ {corners begins : List ℕ} {edges : List Edge} {heads : List ℕ} (C : Crossed corners begins edges heads)
    {marks : List Bool} {queue : List ℕ} (b : Unmarked most_facets marks queue) where
  queued_0 : Queued begins edges marks queue 0
  queued_0 = queue_0 (ReachedAt begins edges) (few C) b

  pub reaching_0 : {marks' : List Bool} {queue' : List ℕ} {tail : ℕ} → Push marks queue 0 0 marks' queue' tail
      → Reaching corners begins edges heads marks' queue' 0 tail
  reaching_0 P = record { crossed = C; flood = flood_0 (push queued_0 (some C) first P) }

module _ {corners begins : List ℕ} {edges : List Edge} {heads : List ℕ} {marks : List Bool} {queue : List ℕ} {head tail : ℕ}
    (R : Reaching corners begins edges heads marks queue head tail) where
  module _ (l : head < tail) where
    pub reaching_small : head < most_facets
    reaching_small = omega (arith, tail_le R.flood.queued, few R.crossed)

    -- fewer facets wait
    pub reaching_less : facets begins - (head + 1) < facets begins - head
    reaching_less = omega (arith, tail_le R.flood.queued)

    module _ {f : ℕ} (e : f ≡ entry_at queue head) where
      pub reaching_visit : Visit begins edges marks queue tail f
      reaching_visit = record {
        corners = corners;
        heads = heads;
        crossed = R.crossed;
        queued = R.flood.queued;
        facet = rw e (R.flood.queued.below head l);
        reached = rw e (R.flood.queued.reach head l);
      }

      pub reaching_more : {marks' : List Bool} {queue' : List ℕ} {tail' : ℕ} → Spreading begins edges f (end begins f) marks queue tail marks' queue' tail'
          → Reaching corners begins edges heads marks' queue' (head + 1) tail'
      reaching_more S = record { crossed = R.crossed; flood = flood_more R.flood l range S }
        where
          range : (p : ℕ) → p < run_length begins → home_at edges p ≡ entry_at queue head → (begin begins f ≤ p) × (p < end begins f)
          range p h s = let i = home_at-in R.crossed.indexed (in_run R.crossed h) in (rw (e, ← s) i.low, rw (e, ← s) i.high)

  -- the index tells the edges as the tables do
  told : SameArcs (run_length begins) (home_at edges) (facet_across_at edges) (home_of begins) (facet_across corners begins)
  told = record {
    starts = λ p l. home_is R.crossed.indexed (in_run R.crossed l);
    ends = λ p l. facet_across_lem R.crossed (in_run R.crossed l);
  }

  pub reaching_end : tail ≤ head → ReachMarks corners begins marks
  reaching_end l =
      let marks = flooded-same told (flood_end R.flood l (some R.crossed) (across_below R.crossed)) in
      rw R.crossed.indexed.tables.laid.finish at marks

-- ---- the search for a facet that has no mark

alike : (x y : Bool) → (x ≡ true → y ≡ true) → (y ≡ true → x ≡ true) → x ≡ y
alike true y f g = sym (f refl)
alike false true f g = g refl
alike false false f g = refl

pub apart-test : {corners begins : List ℕ} {edges : List Edge} {heads : List ℕ} {marks : List Bool} {f : ℕ} → Crossed corners begins edges heads
    → ReachMarks corners begins marks → f < facets begins → is_apart corners begins f ≡ not (marked marks f)
apart-test {corners} {begins} {marks = marks} {f = f} C M l =
    let L = C.indexed.tables.laid in
    let P = C.paired in
    ap not (alike (at (flooded corners begins) f) (marked marks f) (λ e. M.all (flooded-only L P e)) (λ e. flooded-all L P (M.only f l e)))
