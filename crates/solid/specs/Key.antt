-- Numbers of digits whose first digit decides the sign, and the direction whose heights are such numbers. Assumes nothing.
use Rattle.std.specs.Prelude.{ℤ, pos}
use Rattle.whole.specs.Formula.{Ops, ints}
use Rattle.space.specs.Vec.{Vec}

-- ---- numbers h B + l whose last digit l is within c, to the base B = c + 1: h decides the sign

abbrev pub baseᵒ {ℓ} : (O : Ops {ℓ}) → (one c : O.C) → O.C
baseᵒ O one c = O.plus c one

abbrev pub shiftᵒ {ℓ} : (O : Ops {ℓ}) → (one c h l : O.C) → O.C
shiftᵒ O one c h l = O.plus (O.times h (baseᵒ O one c)) l

unfoldable pub shift : ℤ → ℤ → ℤ → ℤ
shift c h l = shiftᵒ ints (pos 1) c h l

-- ---- the key, a number of four digits: the height along n, then x, y and z

abbrev pub keyᵒ {ℓ} : (O : Ops {ℓ}) → (B one : O.C) → Vec O.C → Vec O.C
keyᵒ O B one n = record {
  x = O.times (O.times (O.plus (O.times n.x B) one) B) B;
  y = O.times (O.plus (O.times (O.times n.y B) B) one) B;
  z = O.plus (O.times (O.times (O.times n.z B) B) B) one;
}

unfoldable pub key : ℤ → Vec ℤ → Vec ℤ
key c n = keyᵒ ints (baseᵒ ints (pos 1) c) (pos 1) n
