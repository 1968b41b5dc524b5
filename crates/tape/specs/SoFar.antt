-- Records stored one after the other over the beginning of a table: what holds at each round of the loop that does so. Assumes nothing.
use Rattle.std.specs.Prelude.{◌≡◌, List, ℕ, ◌+◌, ◌≤◌, ◌<◌, length}
use Rattle.std.proofs.Common.{arith}
use Rattle.std.proofs.lemmas.List.Edits.{sets}
use Rattle.whole.specs.Joined.{joined, joined-0, joined-more}
use Rattle.whole.specs.Over.{over, Wrote, wrote_none, stored, window, back, handed}

-- of the lists f 0, .., f (n - 1), the first k are stored
pub record SoFar {A : Type 0} (f : ℕ → List A) (n : ℕ) (old new : List A) (k : ℕ) : Type 0 where
  pub upto : k ≤ n
  pub wrote : Wrote (joined f k) old new

module _ {A : Type 0} {f : ℕ → List A} {n : ℕ} where
  pub so_far_0 : (old : List A) → SoFar f n old old 0
  so_far_0 old = record { upto = omega arith; wrote = rw joined-0 (wrote_none old) }

  module _ {old new : List A} {k : ℕ} (t : SoFar f n old new k) where
    -- one more, stored entry by entry from a on
    pub so_far_more : {next : List A} (a : ℕ) → k < n → next ≡ sets new a (f k) → length (joined f k) ≡ a → a + length (f k) ≤ length old
        → SoFar f n old next (k + 1)
    so_far_more a l s e h = record { upto = omega arith; wrote = rw joined-more (stored t.wrote (f k) a s e h) }

    -- one more, stored into the window that is left from a on
    pub so_far_handed : {rest : List A} (a : ℕ) → k < n → rest ≡ over (f k) (window new a) → length (joined f k) ≡ a → a + length (f k) ≤ length old
        → SoFar f n old (back new a rest) (k + 1)
    so_far_handed a l s e h = record { upto = omega arith; wrote = rw joined-more (handed t.wrote (f k) a s e h) }

    -- all of them
    pub so_far_all : n ≤ k → new ≡ over (joined f n) old
    so_far_all l = let e : k ≡ n = omega (arith, t.upto) in rw e at t.wrote.is
