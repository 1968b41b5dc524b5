-- What an input that names a direction has, and that its direction is the one that it names. Assumes nothing.
use Rattle.std.specs.Prelude.{◌≡◌, refl, Bool, true, false, cond, List, [], ℕ, ltb, ℤ, length}
use Rattle.std.proofs.Common.{arith, ltb-false, le-ltb}
use Rattle.std.proofs.Math.Decide.{dec_lt}
use Rattle.std.proofs.Math.ListN.{get_or-eq_default}
use Rattle.whole.specs.Count.{neither}
use Rattle.words.specs.Words.{is_blank, words, word_of}
use Rattle.numbers.specs.Reading.{read_of}
use Rattle.direction.specs.Direction.{direction, Permitted}
use Rattle.input.specs.Input.{longest, split, no_part, part_of, is_crowded, direction_in}
use Rattle.printed.specs.Meaning.{missing, says_part, part_says, NamesDirection}

-- so there are four words, no more and no less
pub four-words : {input : List ℕ} {x y z : ℤ} → NamesDirection input x y z → length (words is_blank (split input)) ≡ 4
four-words {input} {z = z} n =
    let ws = words is_blank (split input) in
    elim (dec_lt 3 (length ws)) [
      | yes l ↦ omega (arith, n.four)
      | no l ↦ absurd (missing z (rw (get_or-eq_default ws [] {n = 3} (omega arith)) at n.says_z))
    ]

pub named_direction : {input : List ℕ} {x y z : ℤ} → NamesDirection input x y z → direction_in input ≡ direction x y z
unfolding direction_in
named_direction {input} n =
    let p = n.permitted in
    rw (
      le-ltb longest (length input) n.short,
      le-ltb 4 (length (words is_blank (split input))) n.four,
      says_part n.says_x p.x,
      says_part n.says_y p.y,
      says_part n.says_z p.z,
    )

-- every other input is 14: its direction is not permitted
pub direction-named : (input : List ℕ) → Permitted (direction_in input) → let d = direction_in input in NamesDirection input d.x d.y d.z
unfolding direction_in
direction-named input p = go (is_crowded input) refl p
  where
    other : List ℕ → ℕ → ℤ
    other input k = part_of (read_of (word_of is_blank (split input) k))

    go : (t : Bool) → is_crowded input ≡ t
        → Permitted (cond t (direction no_part no_part no_part) (direction (other input 1) (other input 2) (other input 3)))
        → let d = cond t (direction no_part no_part no_part) (direction (other input 1) (other input 2) (other input 3)) in
        NamesDirection input d.x d.y d.z
    go true e p = absurd (omega (arith, p.x.abs))
    go false e p =
        let (a, b) = neither (ltb longest (length input)) (ltb 4 (length (words is_blank (split input)))) e in
        record {
          short = ltb-false _ _ a;
          four = ltb-false _ _ b;
          says_x = part_says _ p.x;
          says_y = part_says _ p.y;
          says_z = part_says _ p.z;
          permitted = p;
        }
