-- "from standard input, up to 256 bytes, the start and the three parts of the direction as decimal numbers with blanks or newlines between".
-- Assumes nothing.
use Rattle.std.specs.Prelude.{◌≡◌, refl, Bool, true, false, cond, ◌||◌, List, ℕ, suc, min, ◌≤◌, ltb, ℤ, pos, negsuc, length, take, Option, Some, None}
use Rattle.std.proofs.Common.{sym, true≢false, arith, take_all, SFits, ltb-true}
use Rattle.std.specs.Int.Signed.{lt_z}
use Rattle.std.specs.Int.{w64}
use Rattle.whole.specs.Bounds.{◌within◌, abs_neg, exceeds, within-exceeds, within-fits}
use Rattle.words.specs.Words.{is_blank, words, word_of}
use Rattle.numbers.specs.Number.{is_number, value}
use Rattle.numbers.specs.Reading.{most, clamp, read_of}
use Rattle.direction.specs.Direction.{direction, steepest}
use Rattle.direction.specs.declared.Direction.{Direction}

-- "more than 256 bytes, of which the first 256 are split into words"
abbrev pub longest : ℕ
longest = 256

abbrev pub split : List ℕ → List ℕ
split input = take longest input

-- word number k, read as a number; none where it is missing or malformed
abbrev pub read_at : List ℕ → ℕ → Option ℤ
read_at input k = read_of (word_of is_blank (split input) k)

-- "a start that is missing, malformed or below 0 is 13": it stands as a number that is V or more
abbrev pub no_vertex : ℕ
no_vertex = 65535

abbrev pub vertex_of : ℤ → ℕ
vertex_of (pos n) = n
vertex_of (negsuc n) = no_vertex

abbrev pub start_of : Option ℤ → ℕ
start_of (Some z) = vertex_of z
start_of None = no_vertex

abbrev pub start_in : List ℕ → ℕ
start_in input = start_of (read_at input 0)

-- "a part that is missing or malformed is 14": it stands as a number outside the limits, and so does every number outside them
abbrev pub no_part : ℤ
no_part = pos 40000

abbrev pub limited : ℤ → ℤ
limited z = cond (exceeds steepest z) no_part z

abbrev pub part_of : Option ℤ → ℤ
part_of (Some z) = limited z
part_of None = no_part

abbrev pub part_at : List ℕ → ℕ → ℤ
part_at input k = part_of (read_at input k)

-- "so is a fifth word or more than 256 bytes"
abbrev pub is_crowded : List ℕ → Bool
is_crowded input = ltb longest (length input) || ltb 4 (length (words is_blank (split input)))

unfoldable pub direction_in : List ℕ → Direction
direction_in input =
    cond (is_crowded input) (direction no_part no_part no_part)
    (direction (part_at input 1) (part_at input 2) (part_at input 3))

-- ---- what the programs' functions cite

pub split-short : (input : List ℕ) → length input ≤ longest → input ≡ split input
split-short input h = sym (take_all longest input h)

pub negative : (z : ℤ) → lt_z z (pos 0) ≡ true → vertex_of z ≡ no_vertex
negative (pos n) e = absurd (omega (arith, ltb-true n 0 e))
negative (negsuc n) e = refl

pub natural : (z : ℤ) → lt_z z (pos 0) ≡ false → z ≡ pos (vertex_of z)
natural (pos n) e = refl
natural (negsuc n) e = absurd (true≢false e)

module _ (z : ℤ) where
  pub part_low : lt_z z (negsuc 32766) ≡ true → no_part ≡ limited z
  part_low e = rw e

  pub part_high : lt_z z (negsuc 32766) ≡ false → lt_z (pos steepest) z ≡ true → no_part ≡ limited z
  part_high e h = rw (e, h)

  pub part_within : lt_z z (negsuc 32766) ≡ false → lt_z (pos steepest) z ≡ false → z within steepest × (z ≡ limited z)
  part_within e h = (within-exceeds steepest z (rw (e, h)), rw (e, h))

-- a number that is read has 64 bits
small : (z : ℤ) → clamp z within most
small (pos n) = record { abs = omega arith }
small (negsuc n) = record { abs = omega (arith, abs_neg (pos (min (suc n) most))) }

abbrev Small : Option ℤ → Type 0
Small (Some z) = SFits w64 z
Small None = Unit {0}

read_small : (word : List ℕ) → Small (read_of word)
read_small word = go (is_number word)
  where
    go : (t : Bool) → Small (cond t (Some (clamp (value word))) None)
    go true = within-fits (small (value word)) tt
    go false = tt

pub small_at : (input : List ℕ) (k : ℕ) {z : ℤ} → read_at input k ≡ Some z → SFits w64 z
small_at input k e = rw e at (read_small (word_of is_blank (split input) k))
