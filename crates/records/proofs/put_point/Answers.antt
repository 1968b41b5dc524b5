-- The kind and three coordinates are stored; together they are the record. Assumes nothing.
use Rattle.std.proofs.Common.{◌≡◌, ◌∙◌, List, ℕ, ℤ, w16, w32, SFits, to_z, of_z}
use Rattle.std.proofs.lemmas.List.Edits.{sets}
use Rattle.tape.specs.Little.{bytes_of, bits, read_back}
use Rattle.records.specs.Records.{framed-three}
use Rattle.records.proofs.put_point.Goals as goal

-- a coordinate stored, which the machine reads as it is
put : {x : ℤ} {new : List ℕ} (old : List ℕ) (i : ℕ) → SFits w16 x
    → new ≡ sets old i (bytes_of 2 (bits (to_z w32 (of_z w32 x)))) → new ≡ sets old i (bytes_of 2 (bits x))
put old i h e = e ∙ rw (read_back h)

pub returns : goal.returns
returns c =
    let a = c.args in
    let h = c.requires in
    let one = put _ 1 h.fits_x c.put_signed.ensures in
    let two = put _ 3 h.fits_y c.put_signed-2.ensures in
    let three = put _ 5 h.fits_z c.put_signed-3.ensures in
    (framed-three a.rest.now 1 (bits a.x) (bits a.y) one two (bits a.z) three h.room).is
