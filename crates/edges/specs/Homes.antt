-- The facet of each place, in one pass over the run. Assumes nothing.
use Rattle.std.specs.Prelude.{◌≡◌, refl, Bool, true, false, cond, List, ℕ, ◌+◌, ◌-◌, ◌≤◌, ◌<◌, eqb, length}
use Rattle.std.proofs.Common.{arith, eqb-true}
use Rattle.std.proofs.Math.Decide.{dec_lt}
use Rattle.std.proofs.lemmas.Bool.{eqb-false}
use Rattle.tables.specs.Tables.{begin, end}
use Rattle.tables.specs.Size.{Laid}
use Rattle.tables.specs.Places.{In}

-- the facet of place p, where f is that of the place before, or the first
abbrev pub home_on : List ℕ → ℕ → ℕ → ℕ
home_on begins f p = cond (eqb (end begins f) p) (f + 1) f

-- place p is one of facet f, or just after it
pub record Upto (begins : List ℕ) (f p : ℕ) : Type 0 where
  pub facet : f + 1 < length begins
  pub low : begin begins f ≤ p
  pub high : p ≤ end begins f

pub upto : {begins : List ℕ} {f p : ℕ} → In begins f p → Upto begins f (p + 1)
upto i = record { facet = i.facet; low = omega (arith, i.low); high = omega (arith, i.high) }

module _ {corners begins : List ℕ} (L : Laid corners begins) where
  pub upto_0 : Upto begins 0 0
  upto_0 = record { facet = omega (arith, L.some); low = omega (arith, L.start); high = omega arith }

  pub home_on_lem : {f p : ℕ} → Upto begins f p → p < length corners → In begins (home_on begins f p) p
  home_on_lem {f} {p} u l = go (eqb (end begins f) p) refl
    where
      more : end begins f ≡ p → f + 1 + 1 < length begins
      more e = elim (dec_lt (f + 1 + 1) (length begins)) [
        | yes b ↦ b
        | no b ↦
            let s : length begins - 1 ≡ f + 1 = omega (arith, u.facet) in
            absurd (omega (arith, rw s at L.finish))
      ]

      go : (t : Bool) → eqb (end begins f) p ≡ t → In begins (cond t (f + 1) f) p
      go true e =
          let q = eqb-true (end begins f) p e in
          record { facet = more q; low = omega arith; high = omega (arith, L.rise (f + 1) (more q)) }
      go false e = record { facet = u.facet; low = u.low; high = omega (arith, u.high, eqb-false (end begins f) p e) }
