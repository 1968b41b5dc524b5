-- The judging program's line, in the sheet's words. Assumes nothing.
use Rattle.std.specs.Prelude.{◌≡◌, refl, List, [], ◌∷◌, ℕ, ℤ, pos, take, Ok, Err}
use Rattle.std.proofs.Common.{sym, subst, arith}
use Rattle.std.proofs.Math.ListN.{length-take}
use Rattle.answers.specs.declared.Answer.{Answer}
use Rattle.reading.specs.Answer.{Reading, counted, refused_at}
use Rattle.tape.specs.Reading.{read_tape}
use Rattle.longest.specs.Longest.{tape_room}
use Rattle.longest.proofs.Sure.{read-cut}
use Rattle.longest.specs.Refusals.{Refusal, read-refusal}
use Rattle.lines.specs.Line.{number_of_lem}
use Rattle.judge_tape.specs.Tape.{judged_tape}
use Rattle.programs.specs.Lines.{judge_numbers}
use Rattle.printed.specs.Small.{places-are}
use Rattle.printed.specs.Tables.{judged_at, small_at}

-- "number and three places"
abbrev pub placed : Answer → List ℤ
placed a = pos a.number ∷ pos a.first ∷ pos a.second ∷ pos a.third ∷ []

module _ (tape : List ℕ) where
  pub data JudgeLine : List ℤ → Type 0 where
    -- "For a reader's refusal the first place is the offset."
    UNREAD : {number offset : ℕ} → read_tape tape ≡ Err (refused_at number offset) → JudgeLine (pos number ∷ pos offset ∷ pos 0 ∷ pos 0 ∷ [])
    -- "reads, then judges"
    JUDGED : {v f c : ℕ} → read_tape tape ≡ Ok (counted v f c) → JudgeLine (placed (judged_at tape v f))

  -- a refusal of a tape of any length is one of its first 21,510 bytes
  pub early : {number offset : ℕ} → read_tape tape ≡ Err (refused_at number offset) → Refusal (take tape_room tape) number offset
  early e = read-refusal (take tape_room tape) (rw (read-cut tape) e)

  -- each of them is printed ..
  pub judge_line_is : {zs : List ℤ} → JudgeLine zs → zs ≡ judge_numbers tape
  unfolding judged_tape
  judge_line_is (UNREAD {number} {offset} e) =
      let r = early e in
      rw (e, number_of_lem number (omega (arith, r.most)), number_of_lem offset (omega (arith, r.inside, length-take tape_room tape)))
  judge_line_is (JUDGED e) = rw e (sym (places-are (small_at tape e)))

  -- .. and one of them is
  pub judge_line : JudgeLine (judge_numbers tape)
  judge_line = go (read_tape tape) refl
    where
      given : {zs : List ℤ} → JudgeLine zs → JudgeLine (judge_numbers tape)
      given x = subst JudgeLine (judge_line_is x) x

      go : (r : Reading) → read_tape tape ≡ r → JudgeLine (judge_numbers tape)
      go (Ok read) e = given (JUDGED e)
      go (Err refused) e = given (UNREAD e)
