-- The first entries of a list. Assumes nothing.
use Rattle.std.specs.Prelude.{◌≡◌, List, ℕ, ◌≤◌, length, take}
use Rattle.std.proofs.Common.{sym, length-take-le}

-- The list has n first entries. The second part follows from the first: it stands here for the proof that Rattle makes of `&list[..n]`.
abbrev pub Begin : {A : Type 0} → ℕ → List A → Type 0
Begin n xs = (n ≤ length xs) × (n ≡ length (take n xs))

pub is_begin : {A : Type 0} (n : ℕ) (xs : List A) → n ≤ length xs → Begin n xs
is_begin n xs h = (h, sym (length-take-le n xs h))
