-- The bytes of the tape of tables whose numbers the layout can hold. Assumes nothing.
use Rattle.std.specs.Prelude.{◌≡◌, List, [], ◌∷◌, ◌++◌, ℕ, zero, suc, ◌*◌, ◌<◌, ℤ, length, get_or}
use Rattle.std.proofs.Common.{lit<}
use Rattle.points.specs.Points.{vertices}
use Rattle.tables.specs.Tables.{facets, facet_of}
use Rattle.whole.specs.Joined.{joined}
use Rattle.tape.specs.Records.{Fits16, Divided}
use Rattle.tape.specs.Tape.{tape}

-- each number has 16 bits
pub record Sixteen (ns : List ℕ) : Type 0 where
  pub small : (k : ℕ) → get_or ns k 0 < 65536

pub sixteen_append : {a b : List ℕ} → Sixteen a → Sixteen b → Sixteen (a ++ b)
sixteen_append {a} {b} x y = record { small = go a x.small }
  where
    go : (l : List ℕ) → ((k : ℕ) → get_or l k 0 < 65536) → (k : ℕ) → get_or (l ++ b) k 0 < 65536
    go [] h k = y.small k
    go (n ∷ l) h zero = h 0
    go (n ∷ l) h (suc k) = go l (λ j. h (suc j)) k

pub sixteen_one : {n : ℕ} → n < 65536 → Sixteen (n ∷ [])
sixteen_one {n} h = record { small = go }
  where
    go : (k : ℕ) → get_or (n ∷ []) k 0 < 65536
    go zero = h
    go (suc k) = lit< tt

pub sixteen_joined : (f : ℕ → List ℕ) → ((k : ℕ) → Sixteen (f k)) → (n : ℕ) → Sixteen (joined f n)
unfolding joined
sixteen_joined f h zero = record { small = λ k. lit< tt }
sixteen_joined f h (suc n) = sixteen_append (sixteen_joined f h n) (h n)

-- within the upper limits, which are the reader's; SIZE's lower limits and RANGE's are no matter of the tape
pub record Holds (points : List ℤ) (corners begins : List ℕ) : Type 0 where
  pub threes : length points ≡ vertices points * 3
  pub placed : Fits16 points
  pub divided : Divided corners begins
  pub numbers : (f : ℕ) → f < facets begins → Sixteen (facet_of corners begins f)

pub record Taped (s : List ℕ) (points : List ℤ) (corners begins : List ℕ) : Type 0 where
  pub holds : Holds points corners begins
  pub same : s ≡ tape points corners begins
