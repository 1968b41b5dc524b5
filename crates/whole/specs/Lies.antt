-- A part of a lent run: where it lies, and what it holds. Assumes nothing.
use Rattle.std.specs.Prelude.{◌≡◌, List, ℕ, ◌+◌, ◌*◌}
use Rattle.std.specs.Borrow.{Bor}

-- r is the lent run itself from entry `begin` on, where an entry takes `width` bytes, and holds these numbers; a place is a block and an offset in it
pub record Lies (width : ℕ) (run : Bor (List ℕ)) (begin : ℕ) (numbers : List ℕ) (r : Bor (List ℕ)) : Type 0 where
  pub at : r.ref_ptr ≡ (run.ref_ptr.0, begin * width + run.ref_ptr.1)
  pub is : r.now ≡ numbers
