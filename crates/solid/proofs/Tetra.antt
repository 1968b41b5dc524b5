-- Case A, the solid T: each hypothesis of the theorems can be met, and a computed test meets it. Assumes nothing.
use Rattle.std.specs.Prelude.{◌≡◌, ◌⊎◌, ℕ, zero, suc, ◌<◌, pos, ◌<ℤ◌}
use Rattle.std.proofs.Common.{subst, inl, inr, arith}
use Rattle.space.specs.Vectors.{◌-ᵛ◌, ◌·◌, det}
use Rattle.solid.specs.Reach.{Around, here, hop, Ring, Linked, self, link}
use Rattle.solid.specs.Box.{Box}
use Rattle.solid.specs.Decide.{run, via, same?, less?, below?, ¬?, ◌→?◌, ◌×?◌, ◌⊎?◌, all?, some?}
use Rattle.solid.specs.Tables.{Place, Corner, Edge, Sized, Ranged, Closed, Flat}
use Rattle.solid.specs.Tables.{Outside, Convex, Reflex, Neighbours, after, next, normal, volume}
use Rattle.solid.specs.Tetra.{corner, at, tetra}
use Rattle.solid.proofs.Theorems.{no_reflex, neighbours}

-- ---- its places, corners and edges, decided

abbrev places? : {A : ℕ → ℕ → Type 0} → ((f i : ℕ) → Dec (A f i)) → Dec ((f i : ℕ) → Place tetra f i → A f i)
places? d = via (λ h f i p. h f p.facet i p.position) (λ h f l i k. h f i (record { facet = l; position = k })) (all? 4 (λ f. all? 3 (λ i. d f i)))

abbrev some_place? : (f : ℕ) {A : ℕ → Type 0} → ((i : ℕ) → Dec (A i)) → Dec ((i : ℕ) × Place tetra f i × A i)
some_place? f d = via (λ (l, (i, k, a)). (i, record { facet = l; position = k }, a)) (λ (i, p, a). (p.facet, (i, p.position, a))) (less? f 4 ×? some? 3 d)

abbrev corner? : (f w : ℕ) → Dec (Corner tetra f w)
corner? f w = via (λ (i, p, s). record { i = i; place = p; names = s }) (λ c. (c.i, c.place, c.names)) (some_place? f (λ i. same? (corner f i) w))

abbrev edge? : (f u w : ℕ) → Dec (Edge tetra f u w)
edge? f u w = via (λ (i, p, (s, z)). record { i = i; place = p; from = s; to = z }) (λ e. (e.i, e.place, (e.from, e.to)))
    (some_place? f (λ i. same? (corner f i) u ×? same? (next tetra f i) w))

-- ---- RING: round v from f to g in two steps or fewer. APART: from facet 0 in one hop or none

abbrev Over : ℕ → ℕ → ℕ → Type 0
Over v f g = (q : ℕ) × (q < 4) × (Edge tetra f v q × Edge tetra g q v)

abbrev over? : (v f g : ℕ) → Dec (Over v f g)
over? v f g = some? 4 (λ q. edge? f v q ×? edge? g q v)

around : {v f g : ℕ} → (f ≡ g) ⊎ (Over v f g ⊎ ((h : ℕ) × (h < 4) × (Over v f h × Over v h g))) → Around (Edge tetra) v f g
around {v} {f} (inl s) = subst (λ g. Around (Edge tetra) v f g) s here
around (inr (inl (q, l, (o, i)))) = hop here o i
around (inr (inr (h, k, ((q, l, (o, i)), (r, m, (o', i')))))) = hop (hop here o i) o' i'

ring : (v : ℕ) → v < 4 → Ring (Corner tetra) (Edge tetra) v
unfolding after
ring v h =
    let (f, l, (c, all)) = run (all? 4 (λ v. some? 4 (λ f. corner? f v ×? all? 4 (λ g. corner? g v →?
    (same? f g ⊎? over? v f g ⊎? some? 4 (λ h. over? v f h ×? over? v h g)))))) tt v h in
    record { start = f; at_start = c; reached = λ {g} k. around (all g k.place.facet k) }

linked : {f : ℕ} → (0 ≡ f) ⊎ ((v : ℕ) × (v < 4) × Over v 0 f) → Linked (Edge tetra) 0 f
linked (inl s) = subst (λ f. Linked (Edge tetra) 0 f) s self
linked (inr (v, l, (q, m, (e, r)))) = link self e r

-- ---- the rules

pub sized : Sized tetra
sized = record { many = omega arith; big = λ f h. omega arith; index = λ {f} {i} p. run (places? (λ f i. less? (corner f i) 4)) tt f i p }

pub closed : Closed tetra
unfolding after
closed = record {
  no_repeat = λ {f} {i} {j} p q. run (places? (λ f i. all? 3 (λ j. same? (corner f i) (corner f j) →? same? i j))) tt f i p j q.position;
  used = λ w h. let (f, l, c) = run (all? 4 (λ w. some? 4 (λ f. corner? f w))) tt w h in (f, c);
  once = λ {f} {i} {g} {j} p q.
      run (places? (λ f i. places? (λ g j. same? (corner f i) (corner g j) →? same? (next tetra f i) (next tetra g j) →? same? f g ×? same? i j)))
      tt f i p g j q;
  reverse = λ {f} {i} p. let (g, l, e) = run (places? (λ f i. some? 4 (λ g. edge? g (next tetra f i) (corner f i)))) tt f i p in (g, e);
  ring = ring;
  reached = λ f h. linked (run (all? 4 (λ f. same? 0 f ⊎? some? 4 (λ v. over? v 0 f))) tt f h);
}

pub flat : Flat tetra
unfolding after normal det ◌·◌ ◌-ᵛ◌
flat = record {
  not_in_line = λ f h s. (subst (λ n. pos 0 <ℤ n · n) s (run (all? 4 (λ f. below? (pos 0) (normal tetra f · normal tetra f))) tt f h)).lt;
  on_plane = λ p h. absurd (omega (arith, p.position));
  turn = λ {f} {i} {j} p q. run (places? (λ f i. all? 3 (λ j. ¬? (same? (corner f j) (corner f i)) →? ¬? (same? (corner f j) (next tetra f i)) →?
      below? (pos 0) (det (normal tetra f) (at (next tetra f i) -ᵛ at (corner f i)) (at (corner f j) -ᵛ at (corner f i)))))) tt f i p j q.position;
}

pub outside : Outside tetra
unfolding det ◌-ᵛ◌
outside = record { inside = λ f w hf hw. run (all? 4 (λ f. all? 4 (λ w. ¬? (corner? f w) →? below? (volume tetra f w) (pos 0)))) tt f hf w hw }

pub convex : Convex tetra
convex = record { closed = closed; flat = flat; outside = outside }

-- ---- so the local rules hold too, in a box

pub reflex : Reflex tetra
reflex = no_reflex sized convex

pub neighbouring : Neighbours tetra
neighbouring = neighbours sized outside

box : (w : ℕ) → w < 4 → Box 1 (at w)
box zero h = omega arith
box (suc zero) h = omega arith
box (suc (suc zero)) h = omega arith
box (suc (suc (suc w))) h = omega arith

pub ranged : Ranged tetra 1
ranged = record { range = box }
