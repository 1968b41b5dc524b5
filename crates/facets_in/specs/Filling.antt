-- The lent tables while facets are stored into them: each begins with what the records so far hold. Assumes nothing.
use Rattle.std.specs.Prelude.{◌≡◌, refl, List, [], ◌∷◌, ℕ, ◌+◌, ◌*◌, ◌≤◌, ◌<◌, length, get_or, take, set}
use Rattle.std.proofs.Common.{sym, ap, ◌∙◌, arith, add-one, length-set, take-suc, length-take-le}
use Rattle.std.proofs.lemmas.List.Edits.{sets}
use Rattle.tables.specs.Tables.{most_facets, most_corners, most_sides}
use Rattle.whole.specs.Stores.{sets_append}
use Rattle.whole.specs.Joined.{joined-0, joined-more, length-listed}
use Rattle.whole.specs.Over.{Wrote, wrote, wrote_none, stored, over, take_over}
use Rattle.tape.specs.Reading.{place, numbers_at, facet_from, corners_at, begins_at}
use Rattle.tape.specs.Whole.{Facets, place_0, place_more, corners_more, length_from, facet_inside, facet_short}

-- ---- the first n numbers of a tray, stored from c on

pub record TraySoFar (tray : List ℕ) (c n : ℕ) (old new : List ℕ) (k : ℕ) : Type 0 where
  pub upto : k ≤ n
  pub long : length new ≡ length old
  pub so_far : new ≡ sets old c (take k tray)

pub store_0 : (tray : List ℕ) (c n : ℕ) (old : List ℕ) → TraySoFar tray c n old old 0
store_0 tray c n old = record { upto = omega arith; long = refl; so_far = refl }

pub store_more : {tray old new : List ℕ} {c n k : ℕ} → TraySoFar tray c n old new k → n ≤ length tray → k < n
    → TraySoFar tray c n old (set new (c + k) (get_or tray k 0)) (k + 1)
store_more {tray} {old} {new} {c} {n} {k} t h l =
    let b : k < length tray = omega arith in
    let m : length (take k tray) ≡ k = length-take-le k tray (omega arith) in
    record {
      upto = omega arith;
      long = simp length-set t.long;
      so_far = rw (add-one, take-suc tray k 0 b, sets_append (take k tray) (get_or tray k 0 ∷ []) old c, m, ← t.so_far);
    }

-- ---- facets

-- what is asked: n facets' records stand from `from` on, and the tables have room
pub record Fillable (s : List ℕ) (from n : ℕ) (corners begins : List ℕ) : Type 0 where
  pub facets : Facets s from n
  pub run_room : most_corners ≤ length corners
  pub begin_room : n < length begins

-- the record of this round's facet: s holds it whole, and the tables have room for it
pub record ReadsFacet (s : List ℕ) (at c f : ℕ) : Type 0 where
  pub narrow : get_or s at 0 ≤ most_sides
  pub inside : at + (1 + 2 * get_or s at 0) ≤ length s
  pub short : c + get_or s at 0 ≤ most_corners
  pub few : f < most_facets

pub record Filling (s : List ℕ) (from n : ℕ) (corners₀ begins₀ corners begins tray : List ℕ) (at c f : ℕ) : Type 0 where
  pub asked : Fillable s from n corners₀ begins₀
  pub upto : f ≤ n
  pub here : at ≡ place s from f
  pub count : c ≡ length (corners_at s from f)
  pub short : c ≤ most_corners
  pub run : Wrote (corners_at s from f) corners₀ corners
  pub starts : Wrote (begins_at s from f) begins₀ begins
  pub twelve : most_sides ≡ length tray

pub filling_0 : {s : List ℕ} {from n : ℕ} {corners begins tray : List ℕ} → Fillable s from n corners begins → most_sides ≡ length tray
    → Filling s from n corners begins corners begins tray from 0 0
filling_0 {s} {from} {n} {corners} {begins} p e = record {
  asked = p;
  upto = omega arith;
  here = sym (place_0 s from);
  count = rw joined-0;
  short = omega arith;
  run = rw joined-0 (wrote_none corners);
  starts = rw joined-0 (wrote_none begins);
  twelve = e;
}

-- the numbers of a facet's body, gathered in a tray
pub trayed : (s : List ℕ) (i n : ℕ) {tray tray' : List ℕ} → tray' ≡ over (numbers_at s i n) tray → most_sides ≡ length tray → n ≤ most_sides
    → Wrote (numbers_at s i n) tray tray'
trayed s i n e t h = wrote e (rw length-listed (omega arith))

module _ {s : List ℕ} {from n : ℕ} {corners₀ begins₀ corners begins tray : List ℕ} {at c f : ℕ}
    (w : Filling s from n corners₀ begins₀ corners begins tray at c f) where
  pub reads_facet : f < n → ReadsFacet s at c f
  reads_facet l =
      let h = w.asked.facets in
      rw (w.here, w.count) (record {
        narrow = h.most f l;
        inside = facet_inside h l;
        short = facet_short h l;
        few = omega (arith, h.few);
      })

  -- a begin more
  begun : Wrote (begins_at s from (f + 1)) begins₀ (set begins f c)
  begun =
      let e = ap (λ (x : ℕ). set begins f x) w.count in
      rw joined-more (stored w.starts (length (corners_at s from f) ∷ []) f e (length-listed _ f) (omega (arith, w.upto, w.asked.begin_room)))

  -- a facet more: gathered in the tray, and stored from there
  more : {new tray' : List ℕ} → f < n → Wrote (numbers_at s (at + 1) (get_or s at 0)) tray tray' → new ≡ sets corners c (take (get_or s at 0) tray')
      → Filling s from n corners₀ begins₀ new (set begins f c) tray' (at + (1 + 2 * get_or s at 0)) (c + get_or s at 0) (f + 1)
  more {new} {tray'} l t q =
      let r = reads_facet l in
      let ns = numbers_at s (at + 1) (get_or s at 0) in
      let b : take (get_or s at 0) tray' ≡ ns = ap (take (get_or s at 0)) t.is ∙ take_over ns tray (get_or s at 0) (length-listed _ (get_or s at 0)) in
      let e : new ≡ sets corners c (facet_from s from f) = rw w.here at (q ∙ ap (λ (l : List ℕ). sets corners c l) b) in
      let room : c + length (facet_from s from f) ≤ length corners₀ = rw (length_from, ← w.here) (omega (arith, r.short, w.asked.run_room)) in
      record {
        asked = w.asked;
        upto = omega arith;
        here = rw w.here (sym (place_more s from f));
        count = rw (w.here, w.count) (sym (corners_more s from f));
        short = r.short;
        run = rw joined-more (stored w.run (facet_from s from f) c e (sym w.count) room);
        starts = begun;
        twelve = w.twelve ∙ sym t.long;
      }

  pub filling_more : {m : ℕ} {new tray' : List ℕ} → f < n → m ≡ get_or s at 0 → Wrote (numbers_at s (at + 1) m) tray tray'
      → new ≡ sets corners c (take m tray') → Filling s from n corners₀ begins₀ new (set begins f c) tray' (at + (1 + 2 * m)) (c + m) (f + 1)
  filling_more l e t q = rw e (more l (rw e at t) (rw e at q))

  pub filled : f ≡ n → (corners ≡ over (corners_at s from n) corners₀) × (set begins n c ≡ over (begins_at s from (n + 1)) begins₀)
  filled e = rw (← e) (w.run.is, begun.is)
