-- What tables in order have for the writer, and what it owes. Assumes nothing.
use Rattle.std.specs.Prelude.{◌≡◌, refl, List, ℕ, ◌+◌, ◌*◌, ◌≤◌, ◌<◌, ℤ, length, Ok, Err}
use Rattle.std.proofs.Common.{sym, ap, ◌∙◌, arith, lt-ltb, le-ltb, ne_eqb}
use Rattle.std.specs.Int.{w16}
use Rattle.whole.specs.Bounds.{within-fits}
use Rattle.points.specs.Points.{vertices}
use Rattle.tables.specs.Tables.{most_vertices, most_facets, most_corners, facets}
use Rattle.tables.specs.Size.{sized}
use Rattle.limits.specs.Rules.{in_limits}
use Rattle.answers.specs.Answer.{Outcome, answer_of, refused, of_length, fault_number, some_fault}
use Rattle.answers.specs.Order.{first_of, number_0}
use Rattle.answers.specs.declared.Fault.{Fault}
use Rattle.answers.specs.declared.Answer.{Answer}
use Rattle.limits.specs.InOrder.{limit_rules, InOrder, limits_none, none_limits, laid}
use Rattle.whole.specs.Over.{over}
use Rattle.tape.specs.Records.{Fits16, divided}
use Rattle.tape.specs.Tape.{tape, length-tape}
use Rattle.writer.specs.Answer.{written, buffer_after}

-- the sizes of such tables and of their tape
pub record Long (points : List ℤ) (corners begins : List ℕ) : Type 0 where
  pub some : 1 ≤ length begins
  pub most : length begins ≤ most_facets + 1
  pub short : length corners ≤ most_corners
  pub few : vertices points ≤ most_vertices
  pub length_is : length (tape points corners begins) ≡ 7 * vertices points + (facets begins + 2 * length corners) + 5

module _ {points : List ℤ} {corners begins : List ℕ} (o : InOrder points corners begins) where
  pub placed : Fits16 points
  placed = record {
    few = (sized points corners begins o.sizes).few;
    fits = λ v k l h. within-fits {w = w16} (in_limits points o.ranges v k l h) tt;
  }

  -- the sizes, for the arithmetic of the writer
  pub long : Long points corners begins
  long = record {
    some = omega (arith, (laid o).some);
    most = (laid o).most;
    short = (laid o).short;
    few = placed.few;
    length_is = length-tape points (divided (laid o));
  }

-- tables that the check passes are in order
pub checked : {points : List ℤ} {corners begins : List ℕ} {r : Outcome} → r ≡ first_of (limit_rules points corners begins) → r ≡ Ok tt
    → InOrder points corners begins
checked {points} {corners} {begins} is e = limits_none points corners begins (sym is ∙ e)

-- a fault's number is not 0
never_0 : (points : List ℤ) (corners begins : List ℕ) {x : Fault} → first_of (limit_rules points corners begins) ≡ Err x → x.number ≡ 0 → ⊥
never_0 points corners begins h z = some_fault (sym h ∙ number_0 (limit_rules points corners begins) refl (ap fault_number h ∙ z))

module _ (points : List ℤ) (corners begins buffer : List ℕ) where
  abbrev pub Owed : Answer → List ℕ → Type 0
  Owed answer new = (answer ≡ written points corners begins buffer) × (new ≡ buffer_after points corners begins buffer)

  -- number 1, 2 or 3
  pub faulty_owed : {answer : Answer} {x : Fault} → answer ≡ answer_of points corners begins (Err x)
      → first_of (limit_rules points corners begins) ≡ Err x → Owed answer buffer
  faulty_owed {answer} {x} e h =
      let s : answer ≡ written points corners begins buffer = rw h e in
      (s, rw (← s, ap (λ a. a.number) e, ne_eqb x.number 0 (never_0 points corners begins h)))

  module _ (o : InOrder points corners begins) where
    pub short_owed : {answer : Answer} → answer ≡ refused 23 → length buffer < length (tape points corners begins) → Owed answer buffer
    short_owed e h = rw (none_limits o, lt-ltb (length buffer) (length (tape points corners begins)) h) (e, refl)

    pub written-owed : {answer : Answer} {n : ℕ} {new : List ℕ} → answer ≡ of_length n → n ≡ length (tape points corners begins)
        → length (tape points corners begins) ≤ length buffer → new ≡ over (tape points corners begins) buffer → Owed answer new
    written-owed a e h q = rw (none_limits o, le-ltb (length buffer) (length (tape points corners begins)) h) (a ∙ ap of_length e, q)
