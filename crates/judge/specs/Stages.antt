-- What is known of tables that pass the rules up to TURN, or up to REFLEX. Assumes nothing.
use Rattle.std.specs.Prelude.{◌≡◌, refl, List, ℕ, ℤ, Option, None, Ok, Err}
use Rattle.std.proofs.Common.{sym, ◌∙◌}
use Rattle.tables.specs.Search.{place_of}
use Rattle.answers.specs.Answer.{Outcome, fault_number}
use Rattle.answers.specs.declared.Fault.{Fault}
use Rattle.answers.specs.Order.{Passes, place_for, none_for, first_of, number_0, or_else, passed, first_append, none_append, rules_from}
use Rattle.index.specs.declared.Edge.{Edge}
use Rattle.edges.specs.Index.{Indexed}
use Rattle.bridge.specs.Surface.{tables_of}
use Rattle.bridge.proofs.Closed.{is_closed}
use Rattle.reflex.specs.Rules.{reflex}
use Rattle.reflex.specs.Fold.{Foldable}
use Rattle.shape.specs.Flat.{flat}
use Rattle.shape.specs.Folds.{no_reflex}
use Rattle.shape.specs.Passed.{Passed}
use Rattle.solid.specs.Tables.{Closed, Flat}
use Rattle.stages.specs.Rules.{rules_to_turn}
use Rattle.stages.specs.Known.{measured-after, paired_after}
use Rattle.stages.specs.HandsOut.{HandsOut}
use Rattle.outside.specs.Scannable.{Scannable}
use Rattle.judge.specs.Judge.{rules}

-- of tables that pass 1 to 10
module _ (points : List ℤ) (corners begins : List ℕ) (P : Passes (rules_to_turn points corners begins)) where
  none : (k : ℕ) → place_for (rules_to_turn points corners begins) k ≡ None
  none = none_for (rules_to_turn points corners begins) P

  pub closed_after : Closed (tables_of points corners begins)
  closed_after =
      is_closed points (measured-after points corners begins P).sound
      (record { no_4 = none 4; no_5 = none 5; no_6 = none 6; no_7 = none 7; no_8 = none 8 })

  pub flat_after : Flat (tables_of points corners begins)
  flat_after = flat points (measured-after points corners begins P).sound.laid (none 9) (none 10)

  -- and REFLEX
  pub passed-after : place_of (reflex points corners begins) ≡ None → Passed points corners begins
  passed-after e =
      let m = measured-after points corners begins P in
      record {
        measured = m;
        closed = closed_after;
        flat = flat_after;
        reflex = no_reflex points m.sound.laid (paired_after points corners begins P) e;
      }

-- what is known where the stage before REFLEX passes, and then REFLEX
indexed : {corners begins : List ℕ} {edges : List Edge} {heads : List ℕ} (r : Outcome) → HandsOut (fault_number r) corners begins edges heads → r ≡ Ok tt
    → Indexed corners begins edges heads
indexed r index e = rw e at index

module _ {points : List ℤ} {corners begins : List ℕ} {edges : List Edge} {heads : List ℕ} {r : Outcome}
    (is : r ≡ first_of (rules_to_turn points corners begins))
    (index : HandsOut (fault_number r) corners begins edges heads) (e : r ≡ Ok tt) where
  pub foldable : Foldable points corners begins edges heads
  foldable =
      let P = sym is ∙ e in
      let paired = paired_after points corners begins P in
      record { measured = measured-after points corners begins P; crossed = record { indexed = indexed r index e; paired = paired } }

  pub scannable : {found : Option (ℕ × ℕ)} {x : Outcome} → found ≡ place_of (reflex points corners begins) → x ≡ or_else 11 found (Ok tt) → x ≡ Ok tt
      → Scannable points corners begins edges heads
  scannable {found} f s d = record { passed = passed-after points corners begins (sym is ∙ e) (sym f ∙ passed 11 found s d); indexed = indexed r index e }

pub early : {r : Outcome} {x : Fault} (points : List ℤ) (corners begins : List ℕ) → r ≡ first_of (rules_to_turn points corners begins) → r ≡ Err x
    → Err x ≡ first_of (rules points corners begins)
early points corners begins is e = sym (first_append _ (rules_to_turn points corners begins) (sym is ∙ e))

pub rest : {r : Outcome} (points : List ℤ) (corners begins : List ℕ) → r ≡ first_of (rules_to_turn points corners begins) → r ≡ Ok tt
    → first_of (rules points corners begins) ≡ first_of (rules_from 11 (rules points corners begins))
rest points corners begins is e = none_append _ (rules_to_turn points corners begins) (sym is ∙ e)

-- the number 0 says that no rule is broken
pub none_broken : (points : List ℤ) (corners begins : List ℕ) → fault_number (first_of (rules points corners begins)) ≡ 0
    → Passes (rules points corners begins)
none_broken points corners begins e = number_0 (rules points corners begins) refl e
