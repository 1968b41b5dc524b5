-- Stores into the rest of a buffer, as the record that they make. Assumes nothing.
use Rattle.std.specs.Prelude.{◌≡◌, refl, List, [], ◌∷◌, ℕ, ◌+◌, ◌*◌, ◌≤◌, ◌<◌, ℤ, length, get_or, take, set}
use Rattle.std.proofs.Common.{ap, ◌∙◌, arith, length-set, length-take-le, SFits}
use Rattle.std.proofs.lemmas.List.Edits.{sets}
use Rattle.std.proofs.Math.Seq.{length-sets}
use Rattle.std.specs.Int.{w16}
use Rattle.tape.specs.Little.{bytes_of}
use Rattle.whole.specs.Over.{Wrote, wrote, sets_over}
use Rattle.whole.specs.Stores.{sets_append}
use Rattle.tape.specs.Records.{framed, packed, packed_more, length-packed}

-- what is asked of a point that is written
pub record PutsPoint (rest : List ℕ) (x y z : ℤ) : Type 0 where
  pub room : 7 ≤ length rest
  pub fits_x : SFits w16 x
  pub fits_y : SFits w16 y
  pub fits_z : SFits w16 z

-- the numbers of a body while they are stored: the first k
pub record BodySoFar (numbers old new : List ℕ) (k : ℕ) : Type 0 where
  pub upto : k ≤ length numbers
  pub long : length new ≡ length old
  pub so_far : new ≡ sets old 1 (packed (take k numbers))

pub body-0 : (numbers old : List ℕ) → BodySoFar numbers old old 0
unfolding packed
body-0 numbers old = record { upto = omega arith; long = refl; so_far = refl }

pub body_more : {numbers old new next : List ℕ} {k : ℕ} → BodySoFar numbers old new k → k < length numbers
    → next ≡ sets new (1 + 2 * k) (bytes_of 2 (get_or numbers k 0)) → BodySoFar numbers old next (k + 1)
body_more {numbers} {old} {new} {next} {k} t l e =
    let n : length (packed (take k numbers)) ≡ 2 * k =
    length-packed (take k numbers) ∙ ap (λ (j : ℕ). 2 * j) (length-take-le k numbers (omega arith)) in
    let joined = sets_append (packed (take k numbers)) (bytes_of 2 (get_or numbers k 0)) old 1 in
    record {
      upto = omega arith;
      long = rw (e, length-sets) t.long;
      so_far = e ∙ rw (packed_more numbers k l, joined, n, ← t.so_far);
    }

-- a byte of kind and then a body of numbers
abbrev pub stores : List ℕ → ℕ → List ℕ → List ℕ
stores rest kind body = sets (set rest 0 kind) 1 body

pub length-stores : (rest : List ℕ) (kind : ℕ) (body : List ℕ) → length (stores rest kind body) ≡ length rest
length-stores rest kind body = length-sets (set rest 0 kind) 1 body ∙ length-set rest 0 kind

pub framed-all : (rest : List ℕ) {new : List ℕ} (kind : ℕ) (ns : List ℕ) → new ≡ stores rest kind (packed ns)
    → length (framed kind ns) ≤ length rest → Wrote (framed kind ns) rest new
framed-all rest kind ns e h = wrote (e ∙ sets_over (framed kind ns) rest h) h

module _ (rest : List ℕ) (kind x y : ℕ) {one two : List ℕ} (a : one ≡ stores rest kind (bytes_of 2 x)) (b : two ≡ sets one 3 (bytes_of 2 y)) where
  pub length_two : length two ≡ length rest
  length_two = rw (b, length-sets, a) (length-stores rest kind (bytes_of 2 x))

  pub framed-two : 5 ≤ length rest → Wrote (framed kind (x ∷ y ∷ [])) rest two
  unfolding packed bytes_of
  framed-two h = framed-all rest kind (x ∷ y ∷ []) (rw (b, a)) h

  pub framed-three : (z : ℕ) {three : List ℕ} → three ≡ sets two 5 (bytes_of 2 z) → 7 ≤ length rest → Wrote (framed kind (x ∷ y ∷ z ∷ [])) rest three
  unfolding packed bytes_of
  framed-three z c h = framed-all rest kind (x ∷ y ∷ z ∷ []) (rw (c, b, a)) h
