-- What the two tables of the index hold after each answer, by its number. Assumes nothing.
use Rattle.std.specs.Prelude.{◌≡◌, Bool, true, false, cond, not, ◌&&◌, List, ℕ, leb, Ok, Err}
use Rattle.std.proofs.Common.{sym, ap, ◌∙◌}
use Rattle.std.proofs.Math.Bool.{not-not}
use Rattle.answers.specs.Answer.{Outcome, fault_number}
use Rattle.answers.specs.Order.{Rule, first_of, each, fault-passes}
use Rattle.index.specs.Entries.{Fresh}
use Rattle.index.specs.declared.Edge.{Edge}
use Rattle.edges.specs.Index.{Indexed, one_index}

-- 1 to 5 are looked for without the index of the edges: PAIR is the first rule that speaks of edges
abbrev pub is_early : ℕ → Bool
is_early number = leb 1 number && leb number 5

-- "what every lent entry then holds, on all inputs and all refusals": after 1 to 5 the tables are blank, as they were lent, and else they hold the index
abbrev pub HandsOut : ℕ → List ℕ → List ℕ → List Edge → List ℕ → Type 0
HandsOut number corners begins edges heads = cond (is_early number) (Fresh edges heads) (Indexed corners begins edges heads)

-- no two outcomes satisfy a promise of one answer and of these tables by its number
module _ (corners begins : List ℕ) {edges edges' : List Edge} {heads heads' : List ℕ} where
  one_hand_out : (early : Bool) → cond early (Fresh edges heads) (Indexed corners begins edges heads)
      → cond early (Fresh edges' heads') (Indexed corners begins edges' heads') → (edges ≡ edges') × (heads ≡ heads')
  one_hand_out true f g = (f.rows ∙ sym g.rows, f.links ∙ sym g.links)
  one_hand_out false i j = one_index i j

  pub one_outcome : {A : Type 0} (number : A → ℕ) {answer r s : A} → (r ≡ answer) × HandsOut (number r) corners begins edges heads
      → (s ≡ answer) × HandsOut (number s) corners begins edges' heads' → (r ≡ s) × (edges ≡ edges') × (heads ≡ heads')
  one_outcome number {answer} (e, h) (f, k) =
      let (rows, links) = one_hand_out (is_early (number answer)) (rw e at h) (rw f at k) in
      (e ∙ sym f, rows, links)

-- rules from 6 on hand out the index, broken or not
pub hands_index : {corners begins : List ℕ} {edges : List Edge} {heads : List ℕ} (rs : List Rule) → each (λ n. not (is_early n)) rs ≡ true
    → (x : Outcome) → x ≡ first_of rs → Indexed corners begins edges heads → HandsOut (fault_number x) corners begins edges heads
hands_index rs s (Err x) e I =
    let late = fault-passes (λ n. not (is_early n)) rs s (sym e) in
    rw (sym (not-not (is_early x.number)) ∙ ap not late) I
hands_index rs s (Ok _) e I = I
