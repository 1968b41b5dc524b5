-- What is known of tables that pass the first rules. Assumes nothing.
use Rattle.std.specs.Prelude.{◌≡◌, List, ℕ, ℤ, Option, Ok}
use Rattle.std.proofs.Common.{sym, ◌∙◌}
use Rattle.answers.specs.Answer.{Outcome}
use Rattle.answers.specs.Order.{Passes, first_of, or_else, passed, none_append, passes_beginning, none_for, rules_from}
use Rattle.tables.specs.Search.{place_of}
use Rattle.index.specs.declared.Edge.{Edge}
use Rattle.edges.specs.Index.{Indexed}
use Rattle.pair.specs.Across.{Crossed}
use Rattle.limits.specs.Rules.{in_limits}
use Rattle.limits.specs.InOrder.{InOrder, limit_rules, limits_none}
use Rattle.pair.specs.Pair.{Paired, pair, pair-none}
use Rattle.bridge.specs.Lower.{all_sound}
use Rattle.flat.specs.Facet.{Measured}
use Rattle.stages.specs.Rules.{rules_to_turn}

pub measured : {points : List ℤ} {corners begins : List ℕ} → InOrder points corners begins → Measured points corners begins
measured {points} o = record { ranged = in_limits points o.ranges; sound = all_sound points o.sizes o.numbers }

-- what is known where the check of 1 to 3 passes, and then PAIR
pub checked : {points : List ℤ} {corners begins : List ℕ} {r : Outcome} → r ≡ first_of (limit_rules points corners begins) → r ≡ Ok tt
    → Measured points corners begins
checked {points} {corners} {begins} is e = measured (limits_none points corners begins (sym is ∙ e))

pub rest : {r : Outcome} (points : List ℤ) (corners begins : List ℕ) → r ≡ first_of (limit_rules points corners begins) → r ≡ Ok tt
    → first_of (rules_to_turn points corners begins) ≡ first_of (rules_from 4 (rules_to_turn points corners begins))
rest points corners begins is e = none_append _ (limit_rules points corners begins) (sym is ∙ e)

pub crossed : {corners begins : List ℕ} {edges : List Edge} {heads : List ℕ} {found : Option (ℕ × ℕ)} {r : Outcome}
    → Indexed corners begins edges heads → found ≡ place_of (pair corners begins) → r ≡ or_else 6 found (Ok tt) → r ≡ Ok tt
    → Crossed corners begins edges heads
crossed {found = found} I f is e = record { indexed = I; paired = pair-none I.tables.laid (sym f ∙ passed 6 found is e) }

-- of tables that pass 1 to 10
module _ (points : List ℤ) (corners begins : List ℕ) (P : Passes (rules_to_turn points corners begins)) where
  pub in_order_after : InOrder points corners begins
  in_order_after = limits_none points corners begins (passes_beginning _ (limit_rules points corners begins) P)

  pub measured-after : Measured points corners begins
  measured-after = measured in_order_after

  pub paired_after : Paired corners begins
  paired_after = pair-none measured-after.sound.laid (none_for (rules_to_turn points corners begins) P 6)
