-- Stores one after the other: what a list that is written piece by piece holds. Assumes nothing.
use Rattle.std.specs.Prelude.{◌≡◌, List, [], ◌∷◌, ◌++◌, ℕ, suc, ◌+◌, length, set}
use Rattle.std.proofs.Common.{◌∙◌, ap, arith}
use Rattle.std.proofs.lemmas.List.Edits.{sets}

pub sets_append : {A : Type 0} (xs ys old : List A) (at : ℕ) → sets old at (xs ++ ys) ≡ sets (sets old at xs) (at + length xs) ys
sets_append [] ys old at = ap (λ k. sets old k ys) (omega arith)
sets_append (x ∷ xs) ys old at = sets_append xs ys (set old at x) (suc at) ∙ ap (λ k. sets (sets (set old at x) (suc at) xs) k ys) (omega arith)
