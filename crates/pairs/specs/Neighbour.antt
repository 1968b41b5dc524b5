-- What the number of a neighbour promises: it is that number, and a point's.
use Rattle.std.specs.Prelude.{◌≡◌, ℕ, ◌<◌}

pub record Beside (n z r : ℕ) : Type 0 where
  pub is : r ≡ z
  pub below : r < n
