-- The tape of tables. Assumes nothing.
use Rattle.std.specs.Prelude.{◌≡◌, List, [], ◌∷◌, ◌++◌, ℕ, ◌+◌, ◌*◌, ℤ, length}
use Rattle.std.proofs.Common.{◌∙◌, length-append}
use Rattle.points.specs.Points.{vertices}
use Rattle.tables.specs.Tables.{facets}
use Rattle.tape.specs.Records.{framed, record_bytes, Divided, length-packed, length-records}

-- "0 end: V and F, unsigned 16 bits each"
abbrev pub ending : ℕ → ℕ → List ℕ
ending v f = framed 0 (v ∷ f ∷ [])

-- "Points come first, then facets, then one end"
abbrev pub tape : List ℤ → List ℕ → List ℕ → List ℕ
tape points corners begins = record_bytes points corners begins ++ ending (vertices points) (facets begins)

pub length-tape : (points : List ℤ) {corners begins : List ℕ} → Divided corners begins
    → length (tape points corners begins) ≡ 7 * vertices points + (facets begins + 2 * length corners) + 5
length-tape points {corners} {begins} p =
    length-append (record_bytes points corners begins) _ ∙ rw (length-records points p, length-packed)
