-- What OUTSIDE asks: tables that pass 1 to 11, and their index. Assumes nothing.
use Rattle.std.specs.Prelude.{◌≡◌, Bool, true, not, List, ℕ, ℤ, None}
use Rattle.std.proofs.Common.{sym, ◌∙◌}
use Rattle.std.proofs.lemmas.Bool.{not-true}
use Rattle.tables.specs.Search.{place_of}
use Rattle.index.specs.declared.Edge.{Edge}
use Rattle.edges.specs.Index.{Indexed}
use Rattle.scan.specs.Rules.{outside}
use Rattle.near.specs.Near.{near}
use Rattle.shape.specs.Passed.{Passed, near-enough}

pub record Scannable (points : List ℤ) (corners begins : List ℕ) (edges : List Edge) (heads : List ℕ) : Type 0 where
  pub passed : Passed points corners begins
  pub indexed : Indexed corners begins edges heads

-- as the code says it: t is what the local test answers
pub passed_over : {points : List ℤ} {corners begins : List ℕ} {edges : List Edge} {heads : List ℕ} {t : Bool} → Scannable points corners begins edges heads
    → t ≡ near points corners begins → not t ≡ true → None ≡ place_of (outside points corners begins)
passed_over R is e = sym (near-enough R.passed (sym is ∙ not-true _ e))
