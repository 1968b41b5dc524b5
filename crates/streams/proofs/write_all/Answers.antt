use Rattle.std.proofs.Common.{◌≡◌, ℕ, ◌+◌, ◌-◌, List, ◌++◌, rules, length, take, drop, sym, ap, ◌∙◌, subst}
use Rattle.std.proofs.lemmas.List.{take_rest}
use Rattle.std.specs.Io.KnownBytes.{Appends}
use Rattle.std.proofs.KnownBytes.{Appends-trans}
use lib.Seq.{take-add}
use Rattle.streams.proofs.write_all.Goals as goal

-- the first bytes, and then the first n of the rest
take_both : (a n : ℕ) (xs : List ℕ) → take a xs ++ take n (take (length xs - a) (drop a xs)) ≡ take (a + n) xs
take_both a n xs = ap (λ rest. take a xs ++ take n rest) (take_rest xs a) ∙ sym (take-add a n xs)

pub loop-done-preserved : goal.loop-done-preserved
loop-done-preserved g c =
    let more = c.in_ok-more in
    let joined = take_both c.loop-done.done more.more c.args.buf.now in
    record {
      in_range = search rules;
      written = subst (Appends _ _) joined (Appends-trans _ _ _ _ _ c.loop-done.invariant.written more.ensures.bytes);
    }
