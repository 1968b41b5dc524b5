-- The second place at which a test holds, among those at which it holds: what was seen is whether there was a first. Assumes nothing.
use Rattle.std.specs.Prelude.{◌≡◌, refl, Bool, true, false, cond, ◌∷◌, ℕ, zero, suc, ◌+◌, ◌<◌, Option, Some, None, filter, slice_get}
use Rattle.std.specs.List.{range_with_len}
use Rattle.std.specs.Option.{option_map}
use Rattle.std.proofs.Common.{sym, ◌∙◌, zero-le, le-ltb, arith}
use Rattle.std.proofs.Math.Bool.{and-false, or-false}
use Rattle.whole.specs.First.{first_below, any_below, found_below, any_more, NoneYet, yet_0, yet_more, yet_hit, hit, found_miss}
use Rattle.once_round.specs.Second.{again}

pub record Seen (f : ℕ → Bool) (n : ℕ) (seen : Bool) (i : ℕ) : Type 0 where
  pub yet : NoneYet (again f) n i
  pub is : seen ≡ any_below f i

pub seen_0 : (f : ℕ → Bool) {n : ℕ} → Seen f n false 0
seen_0 f = record { yet = yet_0; is = sym (le-ltb (first_below f 0) 0 zero-le) }

module _ {f : ℕ → Bool} {n i : ℕ} {seen : Bool} (s : Seen f n seen i) where
  pub seen_hit : f i ≡ true → seen ≡ true → i < n → i ≡ first_below (again f) n
  seen_hit e h l = yet_hit s.yet (rw (← s.is, h, e)) l

  found_hit : f i ≡ true → seen ≡ true → i < n → Some i ≡ found_below (again f) n
  found_hit e h l = hit s.yet (rw (← s.is, h, e)) l Some None

  -- the first
  pub seen_far : {after : Bool} → f i ≡ true → seen ≡ false → after ≡ true → i < n → Seen f n after (i + 1)
  seen_far e h k l = record { yet = yet_more s.yet (rw (← s.is, h)) l; is = rw (any_more f i, ← s.is, h, e, k) }

  pub seen_near : {after : Bool} → f i ≡ false → after ≡ seen → i < n → Seen f n after (i + 1)
  seen_near e k l = record { yet = yet_more s.yet (rw (e, and-false)) l; is = rw (any_more f i, e, or-false, k) s.is }

-- from place i on, the next of those at which it holds, or the one after that
from : (f : ℕ → Bool) (n m i : ℕ) (seen : Bool) → i + m ≡ n → Seen f n seen i
    → slice_get (filter f (range_with_len i m)) (cond seen 0 1) ≡ found_below (again f) n
from f n zero i seen e s = found_miss s.yet (omega arith)
from f n (suc m) i seen e s = go (f i) seen refl refl (λ u t. from f n m (i + 1) u (omega arith) t)
  where
    go : (t u : Bool) → f i ≡ t → seen ≡ u
        → ((u : Bool) → Seen f n u (i + 1) → slice_get (filter f (range_with_len (i + 1) m)) (cond u 0 1) ≡ found_below (again f) n)
        → slice_get (cond t (i ∷ filter f (range_with_len (i + 1) m)) (filter f (range_with_len (i + 1) m))) (cond u 0 1) ≡ found_below (again f) n
    go true true h k more = found_hit s h k (omega arith)
    go true false h k more = more true (seen_far s h k refl (omega arith))
    go false u h k more = more u (seen_near s h (sym k) (omega arith))

pub second : (f : ℕ → Bool) (n : ℕ) (r : Option ℕ) → option_map (λ x. x) r ≡ slice_get (filter f (range_with_len 0 n)) 1
    → r ≡ found_below (again f) n
second f n None e = e ∙ from f n n 0 false (omega arith) (seen_0 f)
second f n (Some i) e = e ∙ from f n n 0 false (omega arith) (seen_0 f)
