-- Numbers against 0, as the tests read them. Assumes nothing.
use Rattle.std.specs.Prelude.{Bool, false, cond, not, ◌&&◌, true, List, ℤ, pos, ◌<ℤ◌, get_or, ◌≡◌, refl}
use Rattle.std.proofs.Common.{true≢false, sym}
use Rattle.std.specs.Int.Signed.{lt_z}
use Rattle.whole.specs.Order.{lt_z_true, lt_z_false, ≤-antisym}

abbrev pub is_below : ℤ → Bool
is_below x = lt_z x (pos 0)

abbrev pub is_above : ℤ → Bool
is_above x = lt_z (pos 0) x

abbrev pub is_zero : ℤ → Bool
is_zero x = cond (is_below x) false (not (is_above x))

-- three points are in line where the normal is nought
abbrev pub is_nought : List ℤ → Bool
is_nought n = is_zero (get_or n 0 (pos 0)) && (is_zero (get_or n 1 (pos 0)) && is_zero (get_or n 2 (pos 0)))

-- on the plane is the volume 0
pub zero_is : (x : ℤ) → is_below x ≡ false → is_above x ≡ false → x ≡ pos 0
zero_is x b a = ≤-antisym x (pos 0) (lt_z_false (pos 0) x a) (lt_z_false x (pos 0) b)

pub above_zero : (x : ℤ) → is_above x ≡ true → pos 0 <ℤ x
above_zero x = lt_z_true (pos 0) x

pub zero_of : (x : ℤ) → is_zero x ≡ true → x ≡ pos 0
zero_of x e = go (is_below x) (is_above x) refl refl e
  where
    go : (t u : Bool) → is_below x ≡ t → is_above x ≡ u → cond t false (not u) ≡ true → x ≡ pos 0
    go true u b a e = absurd (true≢false (sym e))
    go false true b a e = absurd (true≢false (sym e))
    go false false b a e = zero_is x b a
