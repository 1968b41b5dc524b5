-- The directed edge at a place, and the place of its reverse. Assumes nothing.
use Rattle.std.specs.Prelude.{◌≡◌, refl, List, ℕ, zero, suc, ◌-◌, ◌<◌, length, Bool, ◌&&◌, eqb, Option, Some, None, unwrap_or}
use Rattle.whole.specs.Count.{last_below, last}
use Rattle.tables.specs.Tables.{home_of, from, to}
use Rattle.std.proofs.Common.{ap, ◌∙◌, arith}
use Rattle.edges.specs.Chains.{leaves, Within}

-- the edge at place p goes from a to b
abbrev pub is_edge : List ℕ → List ℕ → ℕ → ℕ → ℕ → Bool
is_edge corners begins a b p = leaves corners a p && eqb (to corners begins p) b

-- one more than the last place of the directed edge from a to b, or 0
abbrev pub last_edge : List ℕ → List ℕ → ℕ → ℕ → ℕ
last_edge corners begins a b = last_below (is_edge corners begins a b) (length corners)

-- the place of a link, or none
abbrev pub place_at : ℕ → Option ℕ
place_at zero = None
place_at (suc p) = Some p

-- the place of the reverse of the edge at p
unfoldable pub across_of : List ℕ → List ℕ → ℕ → ℕ
across_of corners begins p = last_edge corners begins (to corners begins p) (from corners p) - 1

-- the facet across the edge at place p
abbrev pub facet_across : List ℕ → List ℕ → ℕ → ℕ
facet_across corners begins p = home_of begins (across_of corners begins p)

pub some_place : {q n : ℕ} → 0 < q → q ≡ n → Some (q - 1) ≡ place_at n
some_place {q = zero} h e = absurd (omega arith)
some_place {q = suc p} h e = rw (← e) (ap Some (omega arith))

pub no_place : {n : ℕ} → 0 ≡ n → None ≡ place_at n
no_place e = rw (← e) refl

pub or_first : (n : ℕ) {r : ℕ} {o : Option ℕ} → o ≡ place_at n → r ≡ unwrap_or o 0 → r ≡ n - 1
or_first zero s e = e ∙ rw s (omega arith)
or_first (suc p) s e = e ∙ rw s (omega arith)

pub across_is : (corners begins : List ℕ) (p : ℕ) {b q : ℕ} → q ≡ last_edge corners begins b (from corners p)
    → b ≡ to corners begins p → q - 1 ≡ across_of corners begins p
unfolding across_of
across_is corners begins p e s = rw (e, s)

pub across_below : (corners begins : List ℕ) {p : ℕ} → p < length corners → across_of corners begins p < length corners
unfolding across_of
across_below corners begins {p} l = omega (arith, (last (is_edge corners begins (to corners begins p) (from corners p)) (length corners)).upto)

-- ---- along a chain

pub edge-within : (corners begins : List ℕ) (a b : ℕ) → Within corners a (is_edge corners begins a b)
edge-within corners begins a b p e = rw e
