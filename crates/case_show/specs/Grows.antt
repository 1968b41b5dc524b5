-- A writer that keeps what it holds, and to which something may have been written: once and again is once.
use Rattle.std.proofs.Common.{ℕ, List, ◌++◌}
use Rattle.std.specs.Prelude.{Option}
use Rattle.std.specs.Io.KnownBytes.{Appends}
use Rattle.std.proofs.KnownBytes.{Appends-trans}

pub record Grows (old new : Option (List ℕ)) : Type 0 where
  pub more : List ℕ
  pub appended : Appends old new more

pub grows_twice : {a b c : Option (List ℕ)} → Grows a b → Grows b c → Grows a c
grows_twice {a = a} {b = b} {c = c} p q = record { more = p.more ++ q.more; appended = Appends-trans a b c p.more q.more p.appended q.appended }
