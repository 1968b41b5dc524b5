-- Tables in which numbers 4 to 8 find nothing. Assumes nothing.
use Rattle.std.specs.Prelude.{◌≡◌, List, None}
use Prim.Native.Nat.{ℕ}
use Rattle.names.specs.Rules.{repeat, unused}
use Rattle.tables.specs.Search.{place_of}
use Rattle.pair.specs.Pair.{pair}
use Rattle.ring.specs.Ring.{ring}
use Rattle.apart.specs.Apart.{apart}

-- numbers 4 to 8 find nothing
pub record Shut (n : ℕ) (corners begins : List ℕ) : Type 0 where
  pub no_4 : place_of (repeat corners begins) ≡ None
  pub no_5 : place_of (unused n corners) ≡ None
  pub no_6 : place_of (pair corners begins) ≡ None
  pub no_7 : place_of (ring n corners begins) ≡ None
  pub no_8 : place_of (apart corners begins) ≡ None
