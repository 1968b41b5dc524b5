-- What std's searches answer, in the words of First: `find` and `any` over the numbers below n, `position` and `any` over a slice's items.
-- A proof gives the test, the call's clause `ran`, and `λ x b q k. search (rules, tests)`: that the closure is the test. Assumes nothing.
use Rattle.std.specs.Prelude.{◌≡◌, Bool, true, false, List, ℕ, ◌≤◌, ◌<◌, Option, Some, None, length, get_or}
use Rattle.std.proofs.Common.{refl, sym, ◌∙◌, zero-le, arith}
use Rattle.std.specs.Bool.{MatchBool}
use Rattle.std.specs.Option.{MatchOption}
use Rattle.std.specs.Fn.{Called, CalledAt}
use Rattle.std.specs.Iterator.{FindsItem, FindsPosition, ChecksAny}
use Rattle.std.specs.List.{AllWithin, HoldsAt, IsAnyAnswer, range_with_len}
use Rattle.std.specs.Slice.Iter.{iter_rest}
use Rattle.std.specs.declared.ops.Range.{Range}
use Rattle.std.specs.declared.slice.Iter.{Iter}
use Rattle.std.proofs.iter.Yields.{fronts, nat_range_steps}
use Rattle.std.proofs.lemmas.Iterator.{first_from_Range, IsFirst-from_position, cases_from_any, YieldsList-from_slice, YieldsList-from_range}
use Rattle.std.proofs.lemmas.List.FromFn.{length-range_with_len, get_or-range_with_len}
use Rattle.std.proofs.Math.Decide.{dec_lt}
use denote.Param.Members.{Mut}
use denote.Ref.{Bor}
use Rattle.whole.specs.First.{Nowhere, NoneYet, yet_0, found_below, any_below, pick-lowest, pick-nowhere, any_is, any_none}

-- `(start..end).find(..)` where the test is known to hold at no position before
module _ {F : Type 0} {g : Mut F (Bor ℕ × Unit {0}) Bool} (u : Range ℕ) {f : F} {s : Range ℕ} where
  pub found_from : (r : Option ℕ) (test : ℕ → Bool) → FindsItem nat_range_steps g s f r u → NoneYet test s.end s.start
      → ((x : ℕ) (b : Bool) (q : F) → CalledAt g f x b q → q ≡ f)
      → ((x : ℕ) (b : Bool) (q : F) → CalledAt g f x b q → s.start ≤ x → x < s.end → b ≡ test x)
      → r ≡ found_below test s.end
  found_from r test ran yet keeps answers =
      by r (first_from_Range s u f r Yes No ran (λ x q k l m. sym (answers x true q k l m))
      (λ x q k. (keeps x false q k, λ l m. sym (answers x false q k l m))))
    where
      Yes : ℕ → Type 0
      Yes x = s.start ≤ x → x < s.end → test x ≡ true

      No : ℕ → Type 0
      No x = s.start ≤ x → x < s.end → test x ≡ false

      before : (n : ℕ) → n ≤ s.end → ((k : ℕ) → s.start ≤ k → k < n → No k) → Nowhere test n
      before n b h k l = elim (dec_lt k s.start) [ yes m ↦ yet.before k m | no m ↦ h k (omega arith) l (omega arith) (omega arith) ]

      by : (r : Option ℕ) → MatchOption r ((k : ℕ) → s.start ≤ k → k < s.end → No k)
          (λ i. (s.start ≤ i) × (i < s.end) × Yes i × ((k : ℕ) → s.start ≤ k → k < i → No k)) → r ≡ found_below test s.end
      by None h = pick-nowhere Some None (before s.end (omega arith) h)
      by (Some i) (l, m, t, h) = pick-lowest Some None (record { below = m; holds = t l m; before = before i (omega arith) h })

-- `(0..n).find(..)`
pub found_by_find : {F : Type 0} {g : Mut F (Bor ℕ × Unit {0}) Bool} (test : ℕ → Bool) (n : ℕ) (u : _) (f : F) (r : Option ℕ)
    → FindsItem nat_range_steps g (record { start = 0; end = n }) f r u
    → ((x : ℕ) (b : Bool) (q : F) → CalledAt g f x b q → (q ≡ f) × (b ≡ test x)) → r ≡ found_below test n
found_by_find test n u f r ran is = found_from u r test ran yet_0 (λ x b q k. (is x b q k).0) (λ x b q k l m. (is x b q k).1)

-- `xs.iter().position(..)`
pub found_by_position : {F : Type 0} {g : Mut F (Bor ℕ × Unit {0}) Bool} (test : ℕ → Bool) (xs : List ℕ) (s u : Iter ℕ) (f : F) (r : Option ℕ)
    → iter_rest s ≡ xs → FindsPosition fronts g s f r u
    → ((x : Bor ℕ) (b : Bool) (q : F) → Called g f (x, tt) b q → (q ≡ f) × (b ≡ test x.now)) → r ≡ found_below (λ p. test (get_or xs p 0)) (length xs)
found_by_position test xs s u f r rest ran is =
    go r (IsFirst-from_position u f r (λ x. test x ≡ true) (λ x. test x ≡ false) ran (YieldsList-from_slice xs rest)
    (λ x q k. sym (is x true q k).1) (λ x q k. ((is x false q k).0, sym (is x false q k).1)))
  where
    go : (r : Option ℕ) → MatchOption r (AllWithin (λ x. test x ≡ false) xs 0 (length xs))
        (λ i. (i < length xs) × HoldsAt (λ x. test x ≡ true) xs i × AllWithin (λ x. test x ≡ false) xs 0 i)
        → r ≡ found_below (λ p. test (get_or xs p 0)) (length xs)
    go None h = pick-nowhere Some None (λ k l. h k 0 zero-le l)
    go (Some i) h = pick-lowest Some None (record { below = h.0; holds = h.1 0; before = λ k l. h.2 k 0 zero-le l })

-- `(0..n).any(..)`
pub any_by_range : {F : Type 0} {g : Mut F (ℕ × Unit {0}) Bool} (test : ℕ → Bool) (n : ℕ) (u : _) (f : F) (r : Bool)
    → ChecksAny nat_range_steps g (record { start = 0; end = n }) f r u
    → ((x : ℕ) (b : Bool) (q : F) → Called g f (x, tt) b q → (q ≡ f) × (b ≡ test x)) → r ≡ any_below test n
any_by_range test n u f r ran is =
    go r (cases_from_any u f r (λ x. test x ≡ true) (λ x. test x ≡ false) ran (YieldsList-from_range 0 n n refl (omega arith))
    (λ x q k. sym (is x true q k).1) (λ x q k. ((is x false q k).0, sym (is x false q k).1)))
  where
    all : List ℕ
    all = range_with_len 0 n

    at : (k : ℕ) → k < n → get_or all k 0 ≡ k
    at k l = get_or-range_with_len 0 n k 0 l ∙ omega arith

    go : (r : Bool) → MatchBool r ((k : ℕ) × (k < length all) × HoldsAt (λ x. test x ≡ true) all k) (AllWithin (λ x. test x ≡ false) all 0 (length all))
        → r ≡ any_below test n
    go true (k, l, h) =
        let b : k < n = omega (arith, length-range_with_len 0 n) in
        sym (any_is test n k b (rw (at k b) at (h 0)))
    go false h = sym (any_none test n (λ k l. rw (at k l) at (h k 0 zero-le (omega (arith, length-range_with_len 0 n)))))

-- `xs.iter().any(..)`
pub any_by_items : {F : Type 0} {g : Mut F (Bor ℕ × Unit {0}) Bool} (test : ℕ → Bool) (xs : List ℕ) (s u : Iter ℕ) (f : F) (r : Bool)
    → iter_rest s ≡ xs → ChecksAny fronts g s f r u
    → ((x : Bor ℕ) (b : Bool) (q : F) → Called g f (x, tt) b q → (q ≡ f) × (b ≡ test x.now)) → r ≡ any_below (λ p. test (get_or xs p 0)) (length xs)
any_by_items test xs s u f r rest ran is =
    go r (cases_from_any u f r (λ x. test x ≡ true) (λ x. test x ≡ false) ran (YieldsList-from_slice xs rest)
    (λ x q k. sym (is x true q k).1) (λ x q k. ((is x false q k).0, sym (is x false q k).1)))
  where
    go : (r : Bool) → MatchBool r ((k : ℕ) × (k < length xs) × HoldsAt (λ x. test x ≡ true) xs k) (AllWithin (λ x. test x ≡ false) xs 0 (length xs))
        → r ≡ any_below (λ p. test (get_or xs p 0)) (length xs)
    go true (k, l, h) = sym (any_is _ (length xs) k l (h 0))
    go false h = sym (any_none _ (length xs) (λ k l. h k 0 zero-le l))

-- `xs.contains(..)`
pub any_in : (xs : List ℕ) (test : ℕ → Bool) (r : Bool) → IsAnyAnswer (λ x b. test x ≡ b) xs r → r ≡ any_below (λ q. test (get_or xs q 0)) (length xs)
any_in xs test true (k, l, h) = sym (any_is _ _ k l (h 0))
any_in xs test false h = sym (any_none _ _ (λ k l. h k 0 (omega arith) l))
