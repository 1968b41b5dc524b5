-- "Rules of geometry": the six-fold volume, the side of a plane that a point is on, and what its sign means. Assumes nothing.
use Rattle.std.specs.Prelude.{ℕ, Bool, cond, true, false, List, ℤ, pos, ◌≡◌, refl, ◌<ℤ◌}
use Rattle.std.proofs.Common.{true≢false, sym}
use Rattle.whole.specs.Formula.{ints}
use Rattle.space.specs.Vec.{Vec, cross}
use Rattle.space.specs.Vectors.{◌-ᵛ◌, det}
use Rattle.space.specs.Rows.{vec_of, list_of}
use Rattle.sides.specs.declared.Side.{Side}
use Rattle.sides.specs.declared.Side.TheVariants.{Inside, On, Outside}
use Rattle.points.specs.Points.{Vertex, Ranged, point}
use Rattle.space.specs.Nought.{is_below, is_above, is_nought, zero_is}
use Rattle.whole.specs.Order.{lt_z_true, true_lt_z}

-- three vertices of points within the limits
pub record Three (points : List ℤ) (a b c : ℕ) : Type 0 where
  pub ranged : Ranged points
  pub first : Vertex points a
  pub second : Vertex points b
  pub third : Vertex points c

-- "The six-fold volume of points a, b, c, d is the determinant of three rows: b-a, c-a, d-a"
abbrev pub volume : List ℤ → ℕ → ℕ → ℕ → ℕ → ℤ
volume points a b c d = det (point points b -ᵛ point points a) (point points c -ᵛ point points a) (point points d -ᵛ point points a)

-- "strictly inside when the determinant is negative, on the plane at zero, outside when positive"
abbrev pub sign : ℤ → Side
sign volume = cond (is_below volume) Inside (cond (is_above volume) Outside On)

abbrev pub side_of : List ℤ → ℕ → ℕ → ℕ → ℕ → Side
side_of points a b c d = sign (volume points a b c d)

-- "Its normal n is the cross product (b-a)×(c-a)"
abbrev pub normal_at : List ℤ → ℕ → ℕ → ℕ → Vec ℤ
normal_at points a b c = cross ints (point points b -ᵛ point points a) (point points c -ᵛ point points a)

abbrev pub normal_of : List ℤ → ℕ → ℕ → ℕ → List ℤ
normal_of points a b c = list_of (normal_at points a b c)

abbrev pub in_line : List ℤ → ℕ → ℕ → ℕ → Bool
in_line points a b c = is_nought (normal_of points a b c)

-- "n·((b-a)×(c-a))" above 0
abbrev pub is_left : List ℤ → List ℤ → ℕ → ℕ → ℕ → Bool
is_left points n a b c = is_above (det (vec_of n) (point points b -ᵛ point points a) (point points c -ᵛ point points a))

abbrev pub is_inside : Side → Bool
is_inside Inside = true
is_inside On = false
is_inside Outside = false

abbrev pub is_on : Side → Bool
is_on Inside = false
is_on On = true
is_on Outside = false

-- strictly inside is a negative volume
pub inside_below : (x : ℤ) → is_inside (sign x) ≡ true → x <ℤ pos 0
inside_below x e = go (is_below x) (is_above x) refl e
  where
    go : (t u : Bool) → is_below x ≡ t → is_inside (cond t Inside (cond u Outside On)) ≡ true → x <ℤ pos 0
    go true u b e = lt_z_true x (pos 0) b
    go false true b e = absurd (true≢false (sym e))
    go false false b e = absurd (true≢false (sym e))

pub below_inside : {x : ℤ} → x <ℤ pos 0 → is_inside (sign x) ≡ true
below_inside h = rw (true_lt_z h)

pub on_zero : (x : ℤ) → is_on (sign x) ≡ true → x ≡ pos 0
on_zero x e = go (is_below x) (is_above x) refl refl e
  where
    go : (t u : Bool) → is_below x ≡ t → is_above x ≡ u → is_on (cond t Inside (cond u Outside On)) ≡ true → x ≡ pos 0
    go true u b a e = absurd (true≢false (sym e))
    go false true b a e = absurd (true≢false (sym e))
    go false false b a e = zero_is x b a

pub zero-on : {x : ℤ} → x ≡ pos 0 → is_on (sign x) ≡ true
zero-on e = rw e
