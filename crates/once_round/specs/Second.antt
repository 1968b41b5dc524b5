-- The second place at which a test holds: the first that has another before it. Assumes nothing.
use Rattle.std.specs.Prelude.{◌≡◌, Bool, true, ◌&&◌, ◌↔◌, ℕ, ◌<◌}
use Rattle.std.proofs.Common.{sym, ◌∙◌, true≢false, arith, lt-ltb, ltb-true}
use Rattle.std.proofs.Math.Bool.{and-true}
use Rattle.std.proofs.Math.Decide.{dec_lt}
use Rattle.whole.specs.First.{first_below, any_below, any_false, first_holds, some_first, Nowhere, Lowest}
use Rattle.whole.specs.Count.{both, is_false}

-- the test holds at place i, and at a place before it
abbrev pub again : (ℕ → Bool) → ℕ → Bool
again f i = any_below f i && f i

-- the test holds at no more than one place below n
abbrev pub AtMostOne : (ℕ → Bool) → ℕ → Type 0
AtMostOne f n = (a b : ℕ) → a < b → b < n → f a ≡ true → f b ≡ true → ⊥

-- it holds at exactly one place below n
pub record One (f : ℕ → Bool) (n : ℕ) : Type 0 where
  pub at : ℕ
  pub below : at < n
  pub holds : f at ≡ true
  pub only : (k : ℕ) → k < n → f k ≡ true → k ≡ at

-- place i below n is the second at which it holds
pub record Second (f : ℕ → Bool) (n i : ℕ) : Type 0 where
  pub below : i < n
  pub holds : f i ≡ true
  pub one : One f i

pub at_most_one : (f : ℕ → Bool) (n : ℕ) → Nowhere (again f) n → AtMostOne f n
at_most_one f n h a b l m p q = true≢false (sym p ∙ any_false f b (rw (q, and-true) at (h b m)) a l)

pub no_second : (f : ℕ → Bool) (n : ℕ) → AtMostOne f n → Nowhere (again f) n
no_second f n h i l = is_false (again f i) (λ e.
    let b = both (any_below f i) (f i) e in
    let k = ltb-true (first_below f i) i b.0 in
    h (first_below f i) i k l (first_holds f i k) b.1)

pub exactly_one : (f : ℕ → Bool) (n k : ℕ) → AtMostOne f n → k < n → f k ≡ true → One f n
exactly_one f n k h l e = record {
  at = k;
  below = l;
  holds = e;
  only = λ j m g. elim (dec_lt j k) [
    | yes p ↦ absurd (h j k p l g e)
    | no p ↦ elim (dec_lt k j) [ yes q ↦ absurd (h k j q m e g) | no q ↦ omega arith ]
  ];
}

pub at_most : (f : ℕ → Bool) (n : ℕ) → One f n → AtMostOne f n
at_most f n o a b l m p q = let e = o.only a (omega arith) p in let e' = o.only b m q in omega arith

pub the_second : (f : ℕ → Bool) (n i : ℕ) → Lowest (again f) n i ↔ Second f n i
the_second f n i = (to, from)
  where
    to : Lowest (again f) n i → Second f n i
    to h =
        let b = both (any_below f i) (f i) h.holds in
        let k = ltb-true (first_below f i) i b.0 in
        record { below = h.below; holds = b.1; one = exactly_one f i (first_below f i) (at_most_one f i h.before) k (first_holds f i k) }

    from : Second f n i → Lowest (again f) n i
    from s = record {
      below = s.below;
      holds = rw (lt-ltb (first_below f i) i (some_first f i s.one.at s.one.below s.one.holds)) s.holds;
      before = no_second f i (at_most f i s.one);
    }
