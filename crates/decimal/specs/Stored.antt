-- What a function that stores a text promises. Assumes nothing.
use Rattle.std.specs.Prelude.{◌≡◌, List, ℕ, ◌+◌, length}
use Rattle.std.proofs.lemmas.List.Edits.{sets}

-- new is old with a text stored from `at` on, and `end` is the place after it
pub record Stored (text old new : List ℕ) (at end : ℕ) : Type 0 where
  pub ends : end ≡ at + length text
  pub is : new ≡ sets old at text
