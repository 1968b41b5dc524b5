-- What the numbers below leave, and the other way round: SIZE and INDEX, REPEAT, UNUSED. Assumes nothing.
use Rattle.std.specs.Prelude.{◌≡◌, false, not, List, ℕ, ◌+◌, ◌<◌, ℤ, length, get_or, None}
use Rattle.std.proofs.Common.{sym, ap, ◌∙◌, arith, eqb-true, eq-eqb, ltb-true, leb-false}
use Rattle.std.proofs.Math.Decide.{dec_lt}
use Rattle.std.proofs.lemmas.Bool.{eqb-false, lt-leb, not-false}
use Rattle.whole.specs.First.{any_is, any_none, any_false, first_below, first_holds}
use Rattle.whole.specs.Count.{is_false}
use Rattle.points.specs.Points.{vertices}
use Rattle.tables.specs.Tables.{begin, sides, facet_of, corner_of, home_of, from}
use Rattle.tables.specs.Size.{Laid, SizePassed, is_size, sized}
use Rattle.tables.specs.Places.{Sound, Single, home_is, corner-at, place_in, place-below}
use Rattle.limits.specs.Rules.{index}
use Rattle.names.specs.Rules.{is_at, repeat, unused}
use Rattle.tables.specs.Found.{nowhere_is, no_place_is}
use Rattle.tables.specs.Search.{place_of, applies_never}
use Rattle.pair.specs.Flat.{Position, position}

-- ---- INDEX: "a corner number is V or more"

pub sound : {n : ℕ} {corners begins : List ℕ} → SizePassed n corners begins → place_of (index n corners begins) ≡ None → Sound n corners begins
sound {n} {corners} {begins} S e = record {
  many = S.many;
  laid = S.laid;
  named = record { few = S.few; short = S.laid.short; index = λ p l. below (position S.laid l) };
}
  where
    below : {p : ℕ} → Position corners begins p → from corners p < n
    below {p} o =
        let f = home_of begins p in
        let tame = applies_never (index n corners begins) e f o.at o.facet o.side in
        rw o.corner at (leb-false n (corner_of corners begins f o.at) tame)

pub sound_index : {n : ℕ} {corners begins : List ℕ} → Sound n corners begins → place_of (index n corners begins) ≡ None
sound_index {n} {corners} {begins} S =
    no_place_is (λ f p l h.
    let below = S.named.index (begin begins f + p) (place-below S.laid l h) in
    lt-leb n (corner_of corners begins f p) (rw (corner-at S.laid l h) below))

-- from the points and SIZE
pub all_sound : (points : List ℤ) {corners begins : List ℕ} → is_size points corners begins ≡ false
    → place_of (index (vertices points) corners begins) ≡ None → Sound (vertices points) corners begins
all_sound points {corners} {begins} e = sound (sized points corners begins e)

-- ---- REPEAT: "a facet names a vertex again"

module _ {corners begins : List ℕ} (L : Laid corners begins) where
  differ : place_of (repeat corners begins) ≡ None → {p q : ℕ} → q < length corners → home_of begins p ≡ home_of begins q → from corners p ≡ from corners q
      → p < q → ⊥
  differ e {p} {q} m h s b =
      let f = home_of begins q in
      let o = position L {p = p} (omega arith) in
      let r = position L m in
      let t = applies_never (repeat corners begins) e f r.at r.facet r.side in
      let k : o.at < r.at = omega (arith, rw h at o.is, r.is) in
      let part = facet_of corners begins f in
      eqb-false _ _ (any_false (is_at part (get_or part r.at 0)) r.at t o.at k) (rw h at o.corner ∙ s ∙ sym r.corner)

  pub repeat-single : place_of (repeat corners begins) ≡ None → Single corners begins
  repeat-single e = record {
    repeats = λ p q l m h s. elim (dec_lt p q) [
      | yes b ↦ absurd (differ e m h s b)
      | no b ↦ elim (dec_lt q p) [ yes c ↦ absurd (differ e l (sym h) (sym s) c) | no c ↦ omega arith ]
    ];
  }

  pub single-repeat : Single corners begins → place_of (repeat corners begins) ≡ None
  single-repeat S = no_place_is (λ f q l h. any_none _ q (λ p b. is_false _ (λ e.
      let k : p < sides begins f = omega arith in
      let same = sym (home_is L (place_in L l k)) ∙ home_is L (place_in L l h) in
      let z = S.repeats _ _ (place-below L l k) (place-below L l h) same (sym (corner-at L l k) ∙ eqb-true _ _ e ∙ corner-at L l h) in
      omega arith)))

-- ---- UNUSED: "no facet names this vertex"

-- each of n vertices stands somewhere in the run
pub record Used (n : ℕ) (corners : List ℕ) : Type 0 where
  pub somewhere : (v : ℕ) → v < n → (p : ℕ) × (p < length corners) × (from corners p ≡ v)

pub unused-used : {n : ℕ} {corners : List ℕ} → place_of (unused n corners) ≡ None → Used n corners
unused-used {n} {corners} e = record {
  somewhere = λ v l.
      let h = ltb-true _ _ (not-false _ (applies_never (unused n corners) e v l)) in
      (first_below (is_at corners v) (length corners), h, eqb-true _ _ (first_holds (is_at corners v) (length corners) h));
}

pub used_unused : {n : ℕ} {corners : List ℕ} → Used n corners → place_of (unused n corners) ≡ None
used_unused {corners = corners} U = nowhere_is (λ v l.
    let (p, b, e) = U.somewhere v l in
    ap not (any_is (is_at corners v) (length corners) p b (eq-eqb _ _ e)))
