-- "Answer numbers of the solid judge": the record that judge, walk, writer and programs share, by kinds of answer. Assumes nothing.
use Rattle.std.specs.Prelude.{◌≡◌, refl, List, ℕ, ℤ, Result, Ok, Err}
use Rattle.std.proofs.Common.{ap}
use Rattle.points.specs.Points.{vertices}
use Rattle.tables.specs.Tables.{facets, edges}
use Rattle.answers.specs.declared.Fault.{Fault}
use Rattle.answers.specs.declared.Answer.{Answer}

-- "accepted: V, E, F"
abbrev pub accepted : ℕ → ℕ → ℕ → Answer
accepted v e f = record { number = 0; first = v; second = e; third = f }

-- "Unused places are 0; the number tells which are used"
abbrev pub fault : ℕ → ℕ → ℕ → Answer
fault number first second = record { number = number; first = first; second = second; third = 0 }

-- a refusal that has no place
abbrev pub refused : ℕ → Answer
refused number = fault number 0 0

-- "For a reader's refusal the first place is the offset."
abbrev pub at_offset : ℕ → ℕ → Answer
at_offset number offset = fault number offset 0

-- no refusal, where there is nothing to name
abbrev pub passed : Answer
passed = accepted 0 0 0

-- "Otherwise it gives the length"
abbrev pub of_length : ℕ → Answer
of_length length = accepted length 0 0

-- a rule's number, and its first place
abbrev pub breaks : ℕ → ℕ → ℕ → Fault
breaks number first second = record { number = number; first = first; second = second }

-- what tables give: no fault, or their first
abbrev pub Outcome : Type 0
Outcome = Result (Unit {0}) Fault

-- the judge's record of the tables' first fault, or of none
abbrev pub answer_of : List ℤ → List ℕ → List ℕ → Outcome → Answer
answer_of points corners begins (Err x) = fault x.number x.first x.second
answer_of points corners begins (Ok _) = accepted (vertices points) (edges corners) (facets begins)

-- "as the judge does" where there is a fault, or else a later answer
abbrev pub judged_or : List ℤ → List ℕ → List ℕ → Outcome → Answer → Answer
judged_or points corners begins (Err x) later = answer_of points corners begins (Err x)
judged_or points corners begins (Ok _) later = later

-- a fault isn't none
pub some_fault : {x : Fault} → ◌≡◌ {A = Outcome} (Err x) (Ok tt) → ⊥
some_fault e = absurd (cc e)

-- two faults are one
pub one_fault : {k a b l c d : ℕ} → ◌≡◌ {A = Outcome} (Err (breaks k a b)) (Err (breaks l c d)) → (k ≡ l) × ((a ≡ c) × (b ≡ d))
one_fault {k} {a} {b} {l} {c} {d} e =
    let z : breaks k a b ≡ breaks l c d = cc in
    (ap (λ x. x.number) z, (ap (λ x. x.first) z, ap (λ x. x.second) z))

-- its number: that of the first fault, or 0
abbrev pub fault_number : Outcome → ℕ
fault_number (Err x) = x.number
fault_number (Ok _) = 0

pub answer-number : (points : List ℤ) (corners begins : List ℕ) (outcome : Outcome) → (answer_of points corners begins outcome).number ≡ fault_number outcome
answer-number points corners begins (Err x) = refl
answer-number points corners begins (Ok _) = refl
