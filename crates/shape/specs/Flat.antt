-- BENT and TURN in plain quantifiers: they find nothing exactly where each facet is flat and turns left. Assumes nothing.
use Rattle.std.specs.Prelude.{◌≡◌, ◌≢◌, Bool, true, false, cond, not, ◌&&◌, List, ℕ, ◌<◌, eqb, ℤ, pos, length, None}
use Rattle.std.proofs.Math.Path.{sym}
use Rattle.std.proofs.Common.{ap, ◌∙◌, add-one, arith, eq-eqb, ne_eqb}
use Rattle.std.proofs.Math.Bool.{true≢false}
use Rattle.std.proofs.Math.Decide.{ℕ_discrete}
use Rattle.std.proofs.lemmas.Bool.{not-false}
use Rattle.whole.specs.Order.{true_lt_z}
use Rattle.whole.specs.First.{any_false, any_none}
use Rattle.whole.specs.Count.{both, is_false}
use Rattle.space.specs.Vec.{Vec, vec}
use Rattle.space.specs.Nought.{is_zero, is_nought, above_zero, zero_of}
use Rattle.space.specs.Rows.{list_of}
use Rattle.sides.specs.Sides.{on_zero, zero-on}
use Rattle.tables.specs.Tables.{facets, sides, facet_of, corner_of, next_position}
use Rattle.tables.specs.Size.{Laid}
use Rattle.tables.specs.Places.{part_length, sides-some}
use Rattle.tables.specs.Found.{no_place_is}
use Rattle.tables.specs.Search.{place_of, applies_never}
use Rattle.flat.specs.Rules.{is_bent, bent, bent-later, bent-third, no_bend}
use Rattle.turn.specs.Rules.{normal_in, strays, is_turn, turn}
use Rattle.bridge.specs.Surface.{tables_of}
use Rattle.solid.specs.Tables.{Tables, next, after, normal, Flat}

-- a corner that is neither end and passes no other test
pub other-than : (c a b : ℕ) (x : Bool) → cond (eqb c a) false (cond (eqb c b) false (not x)) ≡ false → c ≢ a → c ≢ b → x ≡ true
other-than c a b x e ca cb = not-false x (rw (ne_eqb c a ca, ne_eqb c b cb) at e)

pub passed : (c a b : ℕ) (x : Bool) → (c ≢ a → c ≢ b → x ≡ true) → cond (eqb c a) false (cond (eqb c b) false (not x)) ≡ false
passed c a b x h = elim (ℕ_discrete c a) [
  | yes s ↦ rw (eq-eqb c a s)
  | no ca ↦ elim (ℕ_discrete c b) [
    | yes s ↦ rw (ne_eqb c a ca, eq-eqb c b s)
    | no cb ↦ rw (ne_eqb c a ca, ne_eqb c b cb, h ca cb)
  ]
]

-- the position after i, by the two crates' names
after_is : (k i : ℕ) → next_position k i ≡ after k i
unfolding after
after_is k i = rw add-one

-- a normal is nought where its three parts are
nought : (n : Vec ℤ) → is_nought (list_of n) ≡ true → n ≡ vec (pos 0) (pos 0) (pos 0)
nought n e =
    let (a, f) = both (is_zero n.x) (is_zero n.y && is_zero n.z) e in
    let (b, c) = both (is_zero n.y) (is_zero n.z) f in
    λ i. vec (zero_of n.x a i) (zero_of n.y b i) (zero_of n.z c i)

module _ (points : List ℤ) {corners begins : List ℕ} (L : Laid corners begins) where
  abbrev t : Tables
  t = tables_of points corners begins

  -- the corner after position i
  pub next-is : (f i : ℕ) → f < facets begins → corner_of corners begins f (next_position (length (facet_of corners begins f)) i) ≡ next t f i
  next-is f i l =
      ap (λ k. corner_of corners begins f (next_position k i)) (part_length L l) ∙ ap (corner_of corners begins f) (after_is (sides begins f) i)

  module _ (f : ℕ) (l : f < facets begins) where
    not_line : is_bent points (facet_of corners begins f) 2 ≡ false → normal t f ≢ vec (pos 0) (pos 0) (pos 0)
    unfolding normal
    not_line e z = true≢false (sym (ap (λ n. is_nought (list_of n)) z) ∙ sym (bent-third points (facet_of corners begins f)) ∙ e)

    line_not : normal t f ≢ vec (pos 0) (pos 0) (pos 0) → is_bent points (facet_of corners begins f) 2 ≡ false
    unfolding normal
    line_not h = bent-third points (facet_of corners begins f) ∙ is_false _ (λ e. h (nought _ e))

    -- the corner at position j strays from the edge at position i
    abbrev strays_at : ℕ → ℕ → Bool
    strays_at i j = strays points (normal_in points (facet_of corners begins f)) (corner_of corners begins f i) (next t f i) (corner_of corners begins f j)

    -- TURN at position i: no corner strays
    turned : (i j : ℕ) → is_turn points (facet_of corners begins f) i ≡ false → j < sides begins f → strays_at i j ≡ false
    unfolding is_turn
    turned i j e h = rw (next-is f i l) at (any_false _ (length (facet_of corners begins f)) e j (rw (part_length L l) h))

    turned_if : (i : ℕ) → ((j : ℕ) → j < sides begins f → strays_at i j ≡ false) → is_turn points (facet_of corners begins f) i ≡ false
    unfolding is_turn
    turned_if i h = any_none _ (length (facet_of corners begins f)) (λ j k. rw (next-is f i l) (h j (rw (part_length L l) at k)))

  pub flat : place_of (bent points corners begins) ≡ None → place_of (turn points corners begins) ≡ None → Flat t
  unfolding normal
  flat b u =
      let B = applies_never (bent points corners begins) b in
      let U = applies_never (turn points corners begins) u in
      record {
        not_in_line = λ f l. not_line f l (B f 2 l (omega (arith, sides-some L l)));
        on_plane = λ {f} {i} p h. on_zero _ (not-false _ (sym (bent-later points (facet_of corners begins f) h) ∙ B f i p.facet p.position));
        turn = λ {f} {i} {j} p q ca cb.
            above_zero _ (other-than _ _ _ _ (turned f p.facet i j (U f i p.facet p.position) q.position) ca cb);
      }

  pub flat_bent : Flat t → place_of (bent points corners begins) ≡ None
  flat_bent F = no_place_is (λ f p l h. no_bend points (facet_of corners begins f) (line_not f l (F.not_in_line f l))
      (λ q k m. zero-on (F.on_plane {i = q} (record { facet = l; position = rw (part_length L l) at m }) k)) p (rw (part_length L l) h))

  pub flat_turn : Flat t → place_of (turn points corners begins) ≡ None
  unfolding normal
  flat_turn F = no_place_is (λ f p l h. turned_if f l p (λ j k. passed _ _ _ _ (λ ca cb.
      true_lt_z (F.turn {i = p} {j = j} (record { facet = l; position = h }) (record { facet = l; position = k }) ca cb))))
