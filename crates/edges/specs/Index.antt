-- The index of the edges: what its two tables hold, and the two passes that fill them. Assumes nothing.
use Rattle.std.specs.Prelude.{◌≡◌, refl, Bool, true, false, cond, List, ℕ, ◌+◌, ◌≤◌, ◌<◌, eqb, ltb, length, get_or, set, Option, unwrap_or}
use Rattle.std.proofs.Common.{sym, ◌∙◌, arith, length-set, get_or-set_same, get_or-set_other, eq-eqb, eqb-true, lt-ltb, le-ltb}
use Rattle.std.proofs.Math.Path.{ap}
use Rattle.std.proofs.Math.Decide.{dec_lt}
use Rattle.std.proofs.lemmas.List.{length-replicate}
use Rattle.std.proofs.lemmas.Bool.{eqb-false}
use Rattle.whole.specs.Count.{last_below, last_more}
use Rattle.whole.specs.Filled.{Filled, blank, filled_0, filled_more, filled_again, filled_one}
use Rattle.tables.specs.Tables.{most_vertices, most_corners, home_of, next_in, next_of, from, to}
use Rattle.tables.specs.Size.{Laid}
use Rattle.tables.specs.Places.{Named, Sound, In, home, home_is as Home-of, next-below}
use Rattle.index.specs.Entries.{row, blank_row, home_at, end_at, across_at, head_at, Fresh}
use Rattle.index.specs.declared.Edge.{Edge}
use Rattle.edges.specs.Homes.{home_on, Upto, upto, upto_0, home_on_lem}
use Rattle.edges.specs.Chains.{last_of, back_of, Chains}
use Rattle.edges.specs.Edge.{is_edge, last_edge, place_at, or_first, across_of, across_is, across_below}

-- the row of place p: the place across stands in it where p is below n
abbrev pub entries_of : List ℕ → List ℕ → ℕ → ℕ → Edge
entries_of corners begins n p = row (home_of begins p) (to corners begins p) (cond (ltb p n) (across_of corners begins p) 0) (back_of corners p)

-- the first m places have their rows, and the first n of them their places across
pub record RowsHeld (corners begins : List ℕ) (m n : ℕ) (edges : List Edge) (heads : List ℕ) : Type 0 where
  pub rows : Filled blank_row blank_row most_corners edges (entries_of corners begins n) m
  pub firsts : Filled 0 0 most_vertices heads (last_of corners m) most_vertices

-- tables that an index can be made of
pub record Indexable (corners begins : List ℕ) : Type 0 where
  pub laid : Laid corners begins
  pub named : Named most_vertices corners

-- the whole index
pub record Indexed (corners begins : List ℕ) (edges : List Edge) (heads : List ℕ) : Type 0 where
  pub tables : Indexable corners begins
  pub filled : RowsHeld corners begins (length corners) (length corners) edges heads

-- there is one index
pub one_index : {corners begins : List ℕ} {edges edges' : List Edge} {heads heads' : List ℕ} → Indexed corners begins edges heads
    → Indexed corners begins edges' heads' → (edges ≡ edges') × (heads ≡ heads')
one_index I J = (filled_one I.filled.rows J.filled.rows, filled_one I.filled.firsts J.filled.firsts)

pub indexable : {n : ℕ} {corners begins : List ℕ} → Sound n corners begins → Indexable corners begins
indexable S =
    let h = S.named in
    record { laid = S.laid; named = record { few = omega arith; short = h.short; index = λ p l. omega (arith, h.index p l, h.few) } }

-- the edges that leave each vertex, and where each edge ends
pub record Leaving (corners begins : List ℕ) (edges : List Edge) (heads : List ℕ) : Type 0 where
  pub tables : Indexable corners begins
  pub ends : (p : ℕ) → p < length corners → end_at edges p ≡ to corners begins p
  pub chains : Chains corners edges heads (length corners)

pub to-small : {corners begins : List ℕ} → Indexable corners begins → {p : ℕ} → p < length corners → to corners begins p < most_vertices
to-small I l = I.named.index _ (next-below I.laid l)

pub leaving : {corners begins : List ℕ} {n : ℕ} {edges : List Edge} {heads : List ℕ} → Indexable corners begins
    → RowsHeld corners begins (length corners) n edges heads → Leaving corners begins edges heads
leaving I R = record {
  tables = I;
  ends = λ p l. ap (λ r. r.end) (R.rows.at p l);
  chains = record { firsts = R.firsts.at; links = λ p l. ap (λ r. r.back) (R.rows.at p l) };
}

-- where the edge at p leaves a, the code looks at its end
pub edge-entry : {corners begins : List ℕ} {edges : List Edge} {heads : List ℕ} {a p : ℕ} (b : ℕ) → Leaving corners begins edges heads
    → p < length corners → from corners p ≡ a → is_edge corners begins a b p ≡ eqb (end_at edges p) b
edge-entry {p = p} b I l e = rw (eq-eqb _ _ e, I.ends p l)

-- ---- what the whole index holds

module _ {corners begins : List ℕ} {edges : List Edge} {heads : List ℕ} (I : Indexed corners begins edges heads) where
  pub leaves-each : Leaving corners begins edges heads
  leaves-each = leaving I.tables I.filled

  module _ {p : ℕ} (l : p < length corners) where
    pub home_is : home_at edges p ≡ home_of begins p
    home_is = ap (λ r. r.home) (I.filled.rows.at p l)

    pub end_is : end_at edges p ≡ to corners begins p
    end_is = ap (λ r. r.end) (I.filled.rows.at p l)

    pub across_at-is : across_at edges p ≡ across_of corners begins p
    across_at-is = ap (λ r. r.across) (I.filled.rows.at p l) ∙ rw (lt-ltb p (length corners) l)

    pub across_at-below : across_at edges p < length corners
    across_at-below = rw across_at-is (across_below corners begins l)

    pub home_at-in : In begins (home_at edges p) p
    home_at-in = rw home_is (home I.tables.laid l)

    pub small : p < most_corners
    small = omega (arith, I.tables.laid.short)

-- ---- the first pass lists the places, the second finds the places across

pub rows_0 : (corners begins : List ℕ) {edges : List Edge} {heads : List ℕ} → Fresh edges heads → RowsHeld corners begins 0 0 edges heads
unfolding last_below
rows_0 corners begins f = record {
  rows = rw f.rows (filled_0 (entries_of corners begins 0));
  firsts = rw f.links (record {
    long = length-replicate {A = ℕ} most_vertices 0;
    at = λ v l. blank 0 most_vertices v;
    rest = λ v l k. absurd (omega arith);
  });
}

-- a new head at the vertex that place m leaves, by whether it is v
head : (corners heads : List ℕ) (m v : ℕ) (t : Bool) → from corners m < length heads → eqb (from corners m) v ≡ t → head_at heads v ≡ last_of corners m v
    → head_at (set heads (from corners m) (m + 1)) v ≡ cond t (m + 1) (last_of corners m v)
head corners heads m v true l e h = rw (← eqb-true (from corners m) v e) (get_or-set_same heads (from corners m) (m + 1) 0 l)
head corners heads m v false l e h = get_or-set_other heads (from corners m) v (m + 1) 0 (λ q. eqb-false (from corners m) v e (sym q)) ∙ h

rows_more : {corners begins : List ℕ} {edges : List Edge} {heads : List ℕ} {m f end back : ℕ} → RowsHeld corners begins m 0 edges heads → m < most_corners
    → from corners m < most_vertices → f ≡ home_of begins m → end ≡ to corners begins m → back ≡ head_at heads (from corners m)
    → RowsHeld corners begins (m + 1) 0 (set edges m (row f end 0 back)) (set heads (from corners m) (m + 1))
rows_more {corners} {heads = heads} {m} R l b h e k = record {
  rows = filled_more _ R.rows l (rw (le-ltb m 0 (omega arith), h, e, k ∙ R.firsts.at (from corners m) b));
  firsts = record {
    long = length-set heads (from corners m) (m + 1) ∙ R.firsts.long;
    at = λ v g. rw last_more (head corners heads m v (eqb (from corners m) v) (rw R.firsts.long b) refl (R.firsts.at v g));
    rest = λ v g j. absurd (omega arith);
  };
}

-- the places below p are listed, and place p is one of facet f, or just after it
pub record Listing (corners begins : List ℕ) (edges : List Edge) (heads : List ℕ) (f p : ℕ) : Type 0 where
  pub tables : Indexable corners begins
  pub upto : p ≤ length corners
  pub at : Upto begins f p
  pub filled : RowsHeld corners begins p 0 edges heads

pub listing_0 : {corners begins : List ℕ} {edges : List Edge} {heads : List ℕ} → Indexable corners begins → Fresh edges heads
    → Listing corners begins edges heads 0 0
listing_0 {corners} {begins} I f = record { tables = I; upto = omega arith; at = upto_0 I.laid; filled = rows_0 corners begins f }

module _ {corners begins : List ℕ} {edges : List Edge} {heads : List ℕ} {f p : ℕ} (S : Listing corners begins edges heads f p) where
  module _ (l : p < length corners) where
    pub home_now : {g : ℕ} → g ≡ home_on begins f p → In begins g p
    home_now h = rw h (home_on_lem S.tables.laid S.at l)

    next-now : {g q : ℕ} → g ≡ home_on begins f p → q ≡ next_in begins g p → q ≡ next_of begins p
    unfolding next_of
    next-now h e = e ∙ ap (λ g. next_in begins g p) (Home-of S.tables.laid (home_now h))

    pub next-read : {g q : ℕ} → g ≡ home_on begins f p → q ≡ next_in begins g p → q < length corners
    next-read h e = rw (next-now h e) (next-below S.tables.laid l)

    pub vertex_small : from corners p < most_vertices
    vertex_small = S.tables.named.index p l

    pub listing_more : {g q back : ℕ} → g ≡ home_on begins f p → q ≡ next_in begins g p → back ≡ head_at heads (from corners p)
        → Listing corners begins (set edges p (row g (from corners q) 0 back)) (set heads (from corners p) (p + 1)) g (p + 1)
    listing_more h e k =
        let i = home_now h in
        record {
          tables = S.tables;
          upto = omega arith;
          at = upto i;
          filled =
              rows_more S.filled (omega (arith, S.tables.laid.short)) vertex_small (Home-of S.tables.laid i) (ap (from corners) (next-now h e)) k;
        }

-- the rows of other places stay as they are
same_row : (corners begins : List ℕ) (n k : ℕ) → (k ≡ n → ⊥) → entries_of corners begins n k ≡ entries_of corners begins (n + 1) k
same_row corners begins n k d = elim (dec_lt k n) [
  | yes l ↦ rw (lt-ltb k n l, lt-ltb k (n + 1) (omega arith))
  | no l ↦ rw (le-ltb k n (omega arith), le-ltb k (n + 1) (omega arith))
]

rows_across : {corners begins : List ℕ} {edges : List Edge} {heads : List ℕ} {m n across : ℕ} → RowsHeld corners begins m n edges heads → n < m
    → m ≤ most_corners → across ≡ across_of corners begins n
    → RowsHeld corners begins m (n + 1) (set edges n (record (get_or edges n blank_row) { across = across })) heads
rows_across {corners} {begins} {n = n} R l b e = record {
  rows = filled_again _ R.rows l b (rw (R.rows.at n l, lt-ltb n (n + 1) (omega arith), e)) (same_row corners begins n);
  firsts = R.firsts;
}

-- the places below p have their places across
pub record Crossing (corners begins : List ℕ) (edges : List Edge) (heads : List ℕ) (p : ℕ) : Type 0 where
  pub tables : Indexable corners begins
  pub upto : p ≤ length corners
  pub filled : RowsHeld corners begins (length corners) p edges heads

module _ {corners begins : List ℕ} {edges : List Edge} {heads : List ℕ} {p : ℕ} (S : Crossing corners begins edges heads p) where
  pub crossing_leaving : Leaving corners begins edges heads
  crossing_leaving = leaving S.tables S.filled

  module _ (l : p < length corners) where
    pub crossing_end : {end : ℕ} → end ≡ end_at edges p → end < most_vertices
    crossing_end e = rw (e, crossing_leaving.ends p l) (to-small S.tables l)

    -- r is the last place of the reverse
    module _ {end r : ℕ} {q : Option ℕ} (e : end ≡ end_at edges p) (s : q ≡ place_at (last_edge corners begins end (from corners p)))
        (d : r ≡ unwrap_or q 0) where
      place : r ≡ across_of corners begins p
      place = or_first _ s d ∙ across_is corners begins p refl (e ∙ crossing_leaving.ends p l)

      pub crossing_fits : r < most_corners
      crossing_fits = omega (arith, place, across_below corners begins l, S.tables.laid.short)

      pub crossing_more : Crossing corners begins (set edges p (record (get_or edges p blank_row) { across = r })) heads (p + 1)
      crossing_more = record { tables = S.tables; upto = omega arith; filled = rows_across S.filled l S.tables.laid.short place }
