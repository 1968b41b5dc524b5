-- A line, read again: its words are its numbers, and each reads as it was. Assumes nothing.
use Rattle.std.specs.Prelude.{◌≡◌, refl, true, List, [], ◌∷◌, map, ℕ, zero, suc, ◌/◌, ◌%◌, ◌≤◌, ◌<◌, ℤ, pos, negsuc, length, get_or, Some}
use Rattle.std.proofs.Common.{◌∙◌, ap, arith, length-append, le-leb, ne_eqb}
use Rattle.std.proofs.Math.Decide.{dec_lt}
use Rattle.std.proofs.Math.ListN.{get_or-append}
use Rattle.whole.specs.Bounds.{◌within◌}
use Rattle.words.specs.Runs.{among, other, each, each-cons, each_append}
use Rattle.words.specs.Words.{is_blank, words, words-word, words-gap}
use Rattle.numbers.specs.Number.{is_digit, are_digits, digit-range, decimal, decimal-snoc, no_minus, is_number, value}
use Rattle.numbers.specs.Reading.{most, read_of, clamp-is}
use Rattle.decimal.specs.Shown.{digit, digits, shown, digit-is, digits_are}
use Rattle.lines.specs.Line.{after, line_of}

-- what holds of each digit, and of a number where it holds of its tenth, holds of each number
by_digits : (P : ℕ → Type 0) → ((n : ℕ) → n < 10 → P n) → ((n : ℕ) → 10 ≤ n → P (n / 10) → P n) → (n : ℕ) → P n
by_digits P one more n = go n n (omega arith)
  where
    go : (k n : ℕ) → n ≤ k → P n
    go zero n h = one n (omega arith)
    go (suc k) n h = elim (dec_lt n 10) [
      | yes l ↦ one n l
      | no l ↦ more n (omega arith) (go k (n / 10) (omega arith))
    ]

decimal-digits : (n : ℕ) → decimal 0 (digits n) ≡ n
unfolding decimal
decimal-digits = by_digits (λ n. decimal 0 (digits n) ≡ n)
    (λ n h. rw (digit-is n h) (omega arith))
    (λ n h e. rw (digits_are n h, decimal-snoc 0 (digits (n / 10)) (digit (n % 10)), e) (omega arith))

each-digit : (n : ℕ) → each is_digit (digits n) ≡ true
unfolding each
each-digit = by_digits (λ n. each is_digit (digits n) ≡ true)
    (λ n h. rw (digit-is n h, le-leb 48 (digit n) (omega arith), le-leb (digit n) 57 (omega arith)))
    (λ n h e.
    let d = digit (n % 10) in
    rw (digits_are n h, each_append is_digit (digits (n / 10)) (d ∷ []), e, le-leb 48 d (omega arith), le-leb d 57 (omega arith)))

some_digit : (n : ℕ) → 1 ≤ length (digits n)
some_digit = by_digits (λ n. 1 ≤ length (digits n))
    (λ n h. rw (digit-is n h) (omega arith))
    (λ n h e. rw (digits_are n h, length-append) (omega arith))

are_digits_lem : (n : ℕ) → are_digits (digits n) ≡ true
are_digits_lem n = rw (le-leb 1 (length (digits n)) (some_digit n), each-digit n)

-- reading what was written gives the number back
pub value-shown : (z : ℤ) → value (shown z) ≡ z
value-shown (pos n) = let m = no_minus (digits n) (each-digit n) in rw (m.0, m.1, decimal-digits n)
value-shown (negsuc n) = rw (decimal-digits (suc n))

pub number_shown : (z : ℤ) → is_number (shown z) ≡ true
number_shown (pos n) = rw (no_minus (digits n) (each-digit n)).1 (are_digits_lem n)
number_shown (negsuc n) = are_digits_lem (suc n)

pub read-shown : {z : ℤ} → z within most → read_of (shown z) ≡ Some z
read-shown {z} h = rw (number_shown z, value-shown z, clamp-is h)

-- no leading zeros: but for "0" itself, the first digit is not 0
pub first_digit : (n : ℕ) → 0 < n → 49 ≤ get_or (digits n) 0 0
first_digit = by_digits (λ n. 0 < n → 49 ≤ get_or (digits n) 0 0)
    (λ n h l. rw (digit-is n h) (omega arith))
    (λ n h f l. rw (digits_are n h, get_or-append (digits (n / 10)) (digit (n % 10) ∷ []) 0 0 (some_digit (n / 10))) (f (omega arith)))

-- ---- the words of a line are the numbers

no_blank : (s : List ℕ) → each is_digit s ≡ true → each (other is_blank) s ≡ true
unfolding each among
no_blank [] h = refl
no_blank (b ∷ s) h =
    let e = each-cons is_digit b s h in
    let l = digit-range b e.0 in
    rw (ne_eqb 32 b (λ q. omega arith), ne_eqb 10 b (λ q. omega arith)) (no_blank s e.1)

shown-some : (z : ℤ) → 0 < length (shown z)
shown-some (pos n) = some_digit n
shown-some (negsuc n) = omega arith

shown-blank : (z : ℤ) → each (other is_blank) (shown z) ≡ true
unfolding each among
shown-blank (pos n) = no_blank (digits n) (each-digit n)
shown-blank (negsuc n) = no_blank (digits (suc n)) (each-digit (suc n))

after-blank : (n : ℕ) → is_blank (after n) ≡ true
unfolding among
after-blank zero = refl
after-blank (suc n) = refl

pub words-line : (zs : List ℤ) → words is_blank (line_of zs) ≡ map shown zs
unfolding line_of words each
words-line [] = refl
words-line (z ∷ zs) =
    let b = after-blank (length zs) in
    words-word is_blank (shown z) (after (length zs) ∷ line_of zs) (shown-some z) (shown-blank z) (rw b)
    ∙ ap (λ ws. shown z ∷ ws) (words-gap is_blank (after (length zs) ∷ []) (line_of zs) (rw b) ∙ words-line zs)
