-- Case A, the solid T. Assumes nothing.
use Rattle.std.specs.Prelude.{ℕ, zero, suc, ℤ, pos}
use Rattle.space.specs.Vec.{Vec, vec}
use Rattle.solid.specs.Tables.{Tables}

-- ---- "vertices (0,0,0), (1,0,0), (0,1,0), (0,0,1); facets (0,2,1), (0,1,3), (0,3,2), (1,2,3)"

abbrev three : {A : Type 0} → A → A → A → ℕ → A
three a b c zero = a
three a b c (suc zero) = b
three a b c (suc (suc i)) = c

abbrev four : {A : Type 0} → A → A → A → A → ℕ → A
four a b c d zero = a
four a b c d (suc i) = three b c d i

abbrev pub corner : ℕ → ℕ → ℕ
corner = four (three 0 2 1) (three 0 1 3) (three 0 3 2) (three 1 2 3)

abbrev pub at : ℕ → Vec ℤ
at = four (vec (pos 0) (pos 0) (pos 0)) (vec (pos 1) (pos 0) (pos 0)) (vec (pos 0) (pos 1) (pos 0)) (vec (pos 0) (pos 0) (pos 1))

abbrev pub tetra : Tables
tetra = record { vertices = 4; facets = 4; size = λ f. 3; corner = corner; at = at }
