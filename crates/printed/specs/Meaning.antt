-- What the start and the direction of the walk program's input stand for. Assumes nothing.
use Rattle.std.specs.Prelude.{◌≡◌, refl, Bool, true, false, cond, List, [], ℕ, ◌≤◌, ◌<◌, ℤ, pos, negsuc, length, Some, None}
use Rattle.std.proofs.Common.{sym, ap, ◌∙◌, arith}
use Rattle.std.proofs.lemmas.Bool.{false≢true}
use Rattle.whole.specs.Bounds.{◌within◌, within-≤, not_exceeds, exceeds}
use Rattle.tables.specs.Tables.{most_vertices}
use Rattle.words.specs.Words.{is_blank, words, word_of}
use Rattle.numbers.specs.Number.{is_number, value}
use Rattle.numbers.specs.Reading.{clamp, read_of, clamp-is, clamp-below, within-clamp}
use Rattle.direction.specs.Direction.{direction, steepest, Permitted}
use Rattle.input.specs.Input.{longest, split, start_of, no_vertex, negative, no_part, part_of}

-- a word is a number, of the value z; one that is missing has no byte, and says none
pub record Says (word : List ℕ) (z : ℤ) : Type 0 where
  pub is_number_lem : is_number word ≡ true
  pub is_value : value word ≡ z

pub missing : (z : ℤ) → ¬ Says [] z
missing z s = false≢true s.is_number_lem

-- ---- the start

-- the first word is a number from 0 to V - 1
pub record NamesStart (input : List ℕ) (v start : ℕ) : Type 0 where
  pub says : Says (word_of is_blank (split input) 0) (pos start)
  pub below : start < v

-- v is V: a word that is a number from 0 to V - 1 stands for that vertex, and no other word stands for one

module _ {v : ℕ} (few : v ≤ most_vertices) where
  pub says_start : {word : List ℕ} {n : ℕ} → Says word (pos n) → n < v → start_of (read_of word) ≡ n
  says_start s l = rw (s.is_number_lem, s.is_value) (omega arith)

  pub start_says : (word : List ℕ) → start_of (read_of word) < v → Says word (pos (start_of (read_of word)))
  start_says word l = go (is_number word) refl l
    where
      size : (z : ℤ) → start_of (Some (clamp z)) < v → z ≡ pos (start_of (Some (clamp z)))
      size (pos n) l = ap pos (omega arith)
      size (negsuc n) l =
          let below = clamp-below (negsuc n) (pos 0) {N = 0} (omega arith) (record { abs = omega arith }) in
          let e : start_of (Some (clamp (negsuc n))) ≡ no_vertex = negative (clamp (negsuc n)) below in
          absurd (omega arith)

      go : (t : Bool) → is_number word ≡ t → start_of (cond t (Some (clamp (value word))) None) < v
          → Says word (pos (start_of (cond t (Some (clamp (value word))) None)))
      go true e l = record { is_number_lem = e; is_value = size (value word) l }
      go false e l = absurd (omega arith)

-- ---- a part: a word that is a number within the limits stands for it, and every other for a number outside them

pub says_part : {word : List ℕ} {z : ℤ} → Says word z → z within steepest → part_of (read_of word) ≡ z
says_part {word} {z} s h = rw (s.is_number_lem, s.is_value, clamp-is (within-≤ h (omega arith)), not_exceeds h)

pub part_says : (word : List ℕ) → part_of (read_of word) within steepest → Says word (part_of (read_of word))
part_says word h = go (is_number word) refl h
  where
    kept : (z : ℤ) (t : Bool) → exceeds steepest z ≡ t → cond t no_part z within steepest → (z within steepest) × (cond t no_part z ≡ z)
    kept z true e h = absurd (omega (arith, h.abs))
    kept z false e h = (h, refl)

    go : (t : Bool) → is_number word ≡ t → part_of (cond t (Some (clamp (value word))) None) within steepest
        → Says word (part_of (cond t (Some (clamp (value word))) None))
    go true e h =
        let (k, q) = kept (clamp (value word)) (exceeds steepest (clamp (value word))) refl h in
        record { is_number_lem = e; is_value = sym (q ∙ (within-clamp (value word) {N = steepest} (omega arith) k).1) }
    go false e h = absurd (omega (arith, h.abs))

-- ---- the direction

-- "up to 256 bytes", no fifth word, and the second to fourth words are numbers within the limits
pub record NamesDirection (input : List ℕ) (x y z : ℤ) : Type 0 where
  pub short : length input ≤ longest
  pub four : length (words is_blank (split input)) ≤ 4
  pub says_x : Says (word_of is_blank (split input) 1) x
  pub says_y : Says (word_of is_blank (split input) 2) y
  pub says_z : Says (word_of is_blank (split input) 3) z
  pub permitted : Permitted (direction x y z)
