-- Number 7, RING: "the facets at a vertex, stepped across edges at that vertex, make more than one ring". Assumes nothing.
use Rattle.std.specs.Prelude.{◌≡◌, ◌↔◌, Bool, true, false, List, ℕ, ◌+◌, ◌-◌, ◌<◌, eqb, length, None}
use Rattle.std.proofs.Common.{ap, ◌∙◌, le_refl, arith, eqb-true, eq-eqb}
use Rattle.std.proofs.Math.Decide.{dec_lt}
use Rattle.std.proofs.lemmas.Bool.{eqb-false}
use Rattle.whole.specs.First.{first_below, any_below, any_false, any_none, some_first, first_holds}
use Rattle.whole.specs.Count.{is_false, count_below, count-but, last, some_last}
use Rattle.whole.specs.Orbit.{iterate, Steps, NoReturn, reached, missed, return_first}
use Rattle.tables.specs.Tables.{from}
use Rattle.tables.specs.Size.{Laid}
use Rattle.tables.specs.Found.{nowhere_is}
use Rattle.tables.specs.Search.{Search, of_each, place_of, applies_never}
use Rattle.edges.specs.Chains.{leaves, last_of}
use Rattle.pair.specs.Pair.{Paired}
use Rattle.ring.specs.Step.{round_of, steps}

-- how many edges leave v, and the last place of one: there stepping starts
abbrev pub degree : List ℕ → ℕ → ℕ
degree corners v = count_below (leaves corners v) (length corners)

abbrev pub start : List ℕ → ℕ → ℕ
start corners v = last_of corners (length corners) v - 1

-- after i + 1 steps from p it is p again
abbrev pub is_back : List ℕ → List ℕ → ℕ → ℕ → Bool
is_back corners begins p i = eqb (iterate (round_of corners begins) (i + 1) p) p

-- stepping comes back before each edge that leaves v was met
abbrev pub broken : List ℕ → List ℕ → ℕ → Bool
broken corners begins v = any_below (is_back corners begins (start corners v)) (degree corners v - 1)

abbrev pub ring : ℕ → List ℕ → List ℕ → Search
ring n corners begins = of_each n (broken corners begins)

-- ---- the meaning

-- q is reached from p by steps
abbrev pub RoundTo : List ℕ → List ℕ → ℕ → ℕ → Type 0
RoundTo corners begins p q = (j : ℕ) × (iterate (round_of corners begins) j p ≡ q)

-- the facets at v make one ring: each place that leaves v is reached by steps from each
pub record OneRing (corners begins : List ℕ) (v : ℕ) : Type 0 where
  pub met : (p q : ℕ) → p < length corners → q < length corners → from corners p ≡ v → from corners q ≡ v → RoundTo corners begins p q

-- a vertex that some edge leaves has a start
pub record Start (corners : List ℕ) (v : ℕ) : Type 0 where
  pub some : 0 < last_of corners (length corners) v
  pub below : start corners v < length corners
  pub leaving : leaves corners v (start corners v) ≡ true

pub started : (corners : List ℕ) (v : ℕ) → 0 < degree corners v → Start corners v
started corners v h =
    let k = last (leaves corners v) (length corners) in
    let z = some_last (leaves corners v) (length corners) h in
    record { some = z; below = omega (arith, k.upto); leaving = k.holds (start corners v) (omega arith) }

degree-some : (corners : List ℕ) (v : ℕ) {q : ℕ} → q < length corners → from corners q ≡ v → 0 < degree corners v
degree-some corners v {q} l s = omega (arith, count-but (leaves corners v) q (length corners) l (eq-eqb _ _ s))

module _ {corners begins : List ℕ} (L : Laid corners begins) (P : Paired corners begins) (v : ℕ) where
  S : Steps (leaves corners v) (length corners) (round_of corners begins)
  S = steps L P v

  -- where RING doesn't apply at v, its facets make one ring
  pub one_ring : broken corners begins v ≡ false → OneRing corners begins v
  one_ring e = record { met = met }
    where
      k : ℕ
      k = degree corners v

      no_return : NoReturn (round_of corners begins) (start corners v) k
      no_return j a b r =
          let s : j - 1 + 1 ≡ j = omega arith in
          let n = any_false (is_back corners begins (start corners v)) (k - 1) e (j - 1) (omega arith) in
          eqb-false _ _ n (ap (λ i. iterate (round_of corners begins) i (start corners v)) s ∙ r)

      met : (p q : ℕ) → p < length corners → q < length corners → from corners p ≡ v → from corners q ≡ v → RoundTo corners begins p q
      met p q l m s t =
          let z = started corners v (degree-some corners v l s) in
          let (i, c, d) = reached S z.below z.leaving (le_refl k) no_return p l (eq-eqb _ _ s) in
          let again : NoReturn (round_of corners begins) p k = λ j a b r. no_return j a b (return_first S z.below z.leaving j i (rw d r)) in
          let (j, b, x) = reached S l (eq-eqb _ _ s) (le_refl k) again q m (eq-eqb _ _ t) in
          (j, x)

  -- and the other way, where each is reached from one
  pub ring-from : {p : ℕ} → p < length corners → from corners p ≡ v
      → ((q : ℕ) → q < length corners → from corners q ≡ v → RoundTo corners begins p q) → broken corners begins v ≡ false
  ring-from {p} l s all = any_none back (degree corners v - 1) (λ i b. is_false (back i) (λ e. early i b (eqb-true _ _ e)))
    where
      back : ℕ → Bool
      back = is_back corners begins (start corners v)

      early : (i : ℕ) → i < degree corners v - 1 → iterate (round_of corners begins) (i + 1) (start corners v) ≡ start corners v → ⊥
      early i b r =
          let z = started corners v (degree-some corners v l s) in
          let (k, d) = all (start corners v) z.below (eqb-true _ _ z.leaving) in
          missed (leaves corners v) (length corners) (round_of corners begins) p {j = i + 1} (omega arith) (omega arith)
          (return_first S l (eq-eqb _ _ s) (i + 1) k (rw d r)) (λ q m t. all q m (eqb-true _ _ t))

  pub ring-one : OneRing corners begins v → broken corners begins v ≡ false
  ring-one o = elim (dec_lt 0 (degree corners v)) [
    | yes h ↦
        let z = started corners v h in
        let s = eqb-true _ _ z.leaving in
        ring-from z.below s (λ q m t. o.met _ q z.below m s t)
    | no h ↦ any_none (is_back corners begins (start corners v)) (degree corners v - 1) (λ i b. absurd (omega arith))
  ]

-- ---- the ring that starts at the first facet at the vertex

-- the first place of an edge that leaves v
abbrev pub first_leaving : List ℕ → ℕ → ℕ
first_leaving corners v = first_below (leaves corners v) (length corners)

-- its ring holds every facet at v
abbrev pub HoldsAll : List ℕ → List ℕ → ℕ → Type 0
HoldsAll corners begins v = (q : ℕ) → q < length corners → from corners q ≡ v → RoundTo corners begins (first_leaving corners v) q

module _ {corners begins : List ℕ} (L : Laid corners begins) (P : Paired corners begins) (v : ℕ) where
  begun : {q : ℕ} → q < length corners → from corners q ≡ v → (first_leaving corners v < length corners) × (from corners (first_leaving corners v) ≡ v)
  begun {q} l s =
      let b = some_first (leaves corners v) (length corners) q l (eq-eqb _ _ s) in
      (b, eqb-true _ _ (first_holds (leaves corners v) (length corners) b))

  -- RING leaves v be exactly where that ring holds all: the place from which it is followed makes no difference
  pub first_ring : broken corners begins v ≡ false ↔ HoldsAll corners begins v
  first_ring = (
    λ e q l s. let (b, t) = begun l s in (one_ring L P v e).met (first_leaving corners v) q b l t s,
    λ all. ring-one L P v (record { met = λ p q l m s t. let (b, u) = begun l s in (one_ring L P v (ring-from L P v b u all)).met p q l m s t }),
  )

-- ---- RING finds nothing exactly where the facets at each vertex make one ring

module _ {corners begins : List ℕ} (L : Laid corners begins) (P : Paired corners begins) (n : ℕ) where
  pub ring-means : place_of (ring n corners begins) ≡ None → (v : ℕ) → v < n → OneRing corners begins v
  ring-means e v l = one_ring L P v (applies_never (ring n corners begins) e v l)

  pub means_ring : ((v : ℕ) → v < n → OneRing corners begins v) → place_of (ring n corners begins) ≡ None
  means_ring h = nowhere_is (λ v l. ring-one L P v (h v l))
