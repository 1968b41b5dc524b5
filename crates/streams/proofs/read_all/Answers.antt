use Rattle.std.proofs.Common.{◌≡◌, ℕ, ◌+◌, ◌-◌, ◌≤◌, List, ◌++◌, rules, length, take, drop, sym, ap, ◌∙◌, subst, le_refl, drop_at, length-take-le}
use Rattle.std.proofs.lemmas.Slice.{take-put_mid_below}
use Rattle.std.specs.Io.KnownBytes.{Consumes}
use Rattle.std.proofs.KnownBytes.{Consumes-trans}
use borrow.Rule.Slice.PartMut.{put_mid, post_of}
use lib.Seq.{take-add, take-append-le}
use Rattle.streams.proofs.read_all.Goals as goal

-- what was read, and then the n bytes that were read after it
take_both : (a k n : ℕ) (xs ys : List ℕ) → a ≤ length xs → n ≤ length ys → take a xs ++ take n ys ≡ take (a + n) (put_mid a k xs ys)
take_both a k n xs ys within fits =
    let after = post_of a k xs in
    let all = put_mid a k xs ys in
    let front : take a all ≡ take a xs = take-put_mid_below _ _ _ _ _ (le_refl _) within in
    let rest = drop_at (take a xs) (ys ++ after) a (length-take-le a xs within) in
    let back : take n (drop a all) ≡ take n ys = ap (take n) rest ∙ take-append-le n ys after fits in
    sym (take-add a n all ∙ ap (λ l. l ++ take n (drop a all)) front ∙ ap (λ l. take a xs ++ l) back)

pub loop-len-preserved : goal.loop-len-preserved
loop-len-preserved g c =
    let len = c.loop-len.len in
    let buf = c.loop-len.buf in
    let before = c.loop-len.invariant in
    let read = c.in-Ok.ensures in
    let joined = take_both len (length buf - len) c.in-Ok.more buf c.read_on.new.buf before.in_range read.bound.0 in
    record {
      same_length = search rules;
      in_range = search rules;
      taken = subst (Consumes _ _) joined (Consumes-trans _ _ _ _ _ before.taken read.bytes.0);
    }
