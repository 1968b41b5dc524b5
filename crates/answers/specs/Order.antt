-- "The lowest number that applies anywhere in the tables wins. Within it, the first place wins": the order of the rules as one list. Assumes nothing.
use Rattle.std.specs.Prelude.{◌≡◌, Bool, true, false, cond, ℕ, ◌≤◌, ◌<◌, eqb, ltb, Option, Some, None, Ok, Err}
use Rattle.std.proofs.Math.Path.{refl}
use Rattle.std.proofs.Common.{sym, ap, ◌∙◌, true≢false, arith, eqb-true, ltb-true}
use mathlib.Core.List.{List, [], ◌∷◌, ◌++◌}
use Rattle.tables.specs.Search.{Search, place_of, AppliesFirst, AppliesNever, differ, applies_first, first_applies, applies_never, never_applies}
use Rattle.answers.specs.Answer.{Outcome, breaks, fault_number, some_fault, one_fault}

-- a rule's number, and where it is looked for in these tables
pub record Rule : Type 0 where
  pub number : ℕ
  pub search : Search

abbrev pub rule : ℕ → Search → Rule
rule number search = record { number = number; search = search }

-- a number at its first place, or the fault of the rules after it
abbrev pub or_else : ℕ → Option (ℕ × ℕ) → Outcome → Outcome
or_else number (Some place) later = Err (breaks number place.0 place.1)
or_else number None later = later

-- a rule that passes has no place
pub passed : (number : ℕ) (found : Option (ℕ × ℕ)) {r : Outcome} → r ≡ or_else number found (Ok tt) → r ≡ Ok tt → found ≡ None
passed number (Some place) is e = absurd (some_fault (sym is ∙ e))
passed number None is e = refl

-- "The lowest number that applies anywhere"
unfoldable pub first_of : List Rule → Outcome
first_of [] = Ok tt
first_of (r ∷ rs) = or_else r.number (place_of r.search) (first_of rs)

-- each fault is a rule's that applies, first at its place, where none before it applies anywhere ..
pub data Given : List Rule → Outcome → Type 0 where
  here : {r : Rule} {rs : List Rule} {a b : ℕ} → AppliesFirst r.search a b → Given (r ∷ rs) (Err (breaks r.number a b))
  after : {r : Rule} {rs : List Rule} {x : Outcome} → AppliesNever r.search → Given rs x → Given (r ∷ rs) x
  none : Given [] (Ok tt)

pub given : (rs : List Rule) → Given rs (first_of rs)
unfolding first_of
given [] = none
given (r ∷ rs) = go (given rs) (place_of r.search) refl
  where
    go : {x : Outcome} → Given rs x → (p : Option (ℕ × ℕ)) → place_of r.search ≡ p → Given (r ∷ rs) (or_else r.number p x)
    go g (Some (a, b)) e = here (applies_first r.search e)
    go g None e = after (applies_never r.search e) g

-- .. and no other is
pub given_is : {rs : List Rule} {x : Outcome} → Given rs x → x ≡ first_of rs
unfolding first_of
given_is (here {r} {rs} h) = ap (λ p. or_else r.number p (first_of rs)) (sym (first_applies r.search h))
given_is (after {r} {rs} h g) = given_is g ∙ ap (λ p. or_else r.number p (first_of rs)) (sym (never_applies r.search h))
given_is none = refl

-- ---- what is known on the way

-- no rule of the list applies anywhere
abbrev pub Passes : List Rule → Type 0
Passes rs = first_of rs ≡ Ok tt

pub passes_none : Passes []
unfolding first_of
passes_none = refl

-- the rules of the list from this number on ..
abbrev pub rules_from : ℕ → List Rule → List Rule
rules_from k [] = []
rules_from k (r ∷ rs) = cond (eqb r.number k) (r ∷ rs) (rules_from k rs)

-- .. and those after it
abbrev pub rules_after : ℕ → List Rule → List Rule
rules_after k [] = []
rules_after k (r ∷ rs) = cond (eqb r.number k) rs (rules_after k rs)

-- where the rule of this number applies first
abbrev pub place_for : List Rule → ℕ → Option (ℕ × ℕ)
place_for [] k = None
place_for (r ∷ rs) k = cond (eqb r.number k) (place_of r.search) (place_for rs k)

-- it applies, so it is the first fault from there on ..
pub first_at : (rs : List Rule) (k : ℕ) {a b : ℕ} → place_for rs k ≡ Some (a, b) → Err (breaks k a b) ≡ first_of (rules_from k rs)
unfolding first_of
first_at [] k e = absurd (differ (sym e))
first_at (r ∷ rs) k {a} {b} e = go (λ h. first_at rs k h) (eqb r.number k) refl e
  where
    go : (place_for rs k ≡ Some (a, b) → Err (breaks k a b) ≡ first_of (rules_from k rs)) → (t : Bool) → eqb r.number k ≡ t
        → cond t (place_of r.search) (place_for rs k) ≡ Some (a, b) → Err (breaks k a b) ≡ first_of (cond t (r ∷ rs) (rules_from k rs))
    go h true s e = rw (e, eqb-true r.number k s)
    go h false s e = h e

-- .. or it doesn't, and the first fault is one after it
pub first_after : (rs : List Rule) (k : ℕ) → place_for rs k ≡ None → first_of (rules_from k rs) ≡ first_of (rules_after k rs)
unfolding first_of
first_after [] k e = refl
first_after (r ∷ rs) k e = go (λ h. first_after rs k h) (eqb r.number k) e
  where
    go : (place_for rs k ≡ None → first_of (rules_from k rs) ≡ first_of (rules_after k rs)) → (t : Bool)
        → cond t (place_of r.search) (place_for rs k) ≡ None → first_of (cond t (r ∷ rs) (rules_from k rs)) ≡ first_of (cond t rs (rules_after k rs))
    go h true e = rw e
    go h false e = h e

-- the rule of each number applies nowhere
pub none_for : (rs : List Rule) → Passes rs → (k : ℕ) → place_for rs k ≡ None
unfolding first_of
none_for [] e k = refl
none_for (r ∷ rs) e k = go (λ h. none_for rs h k) (place_of r.search) refl e (eqb r.number k)
  where
    go : (Passes rs → place_for rs k ≡ None) → (p : Option (ℕ × ℕ)) → place_of r.search ≡ p → or_else r.number p (first_of rs) ≡ Ok tt
        → (t : Bool) → cond t (place_of r.search) (place_for rs k) ≡ None
    go h (Some (a, b)) s e t = absurd (some_fault e)
    go h None s e true = s
    go h None s e false = h e

-- ---- a list that goes on

module _ (qs : List Rule) where
  -- a fault of its beginning is a fault of the whole
  pub first_append : (rs : List Rule) {number first second : ℕ} → first_of rs ≡ Err (breaks number first second)
      → first_of (rs ++ qs) ≡ Err (breaks number first second)
  unfolding first_of
  first_append [] e = absurd (some_fault (sym e))
  first_append (r ∷ rs) e = go (λ h. first_append rs h) (place_of r.search) e
    where
      go : {x : Outcome} → (first_of rs ≡ x → first_of (rs ++ qs) ≡ x) → (p : Option (ℕ × ℕ)) → or_else r.number p (first_of rs) ≡ x
          → or_else r.number p (first_of (rs ++ qs)) ≡ x
      go h (Some (a, b)) e = e
      go h None e = h e

  -- where its beginning has none, the fault is that of the rest
  pub none_append : (rs : List Rule) → Passes rs → first_of (rs ++ qs) ≡ first_of qs
  unfolding first_of
  none_append [] e = refl
  none_append (r ∷ rs) e = go (λ h. none_append rs h) (place_of r.search) e
    where
      go : (Passes rs → first_of (rs ++ qs) ≡ first_of qs) → (p : Option (ℕ × ℕ)) → or_else r.number p (first_of rs) ≡ Ok tt
          → or_else r.number p (first_of (rs ++ qs)) ≡ first_of qs
      go h (Some (a, b)) e = absurd (some_fault e)
      go h None e = h e

  pub passes_beginning : (rs : List Rule) → Passes (rs ++ qs) → Passes rs
  passes_beginning rs e = go (first_of rs) refl
    where
      go : (x : Outcome) → first_of rs ≡ x → x ≡ Ok tt
      go (Err x) s = sym (first_append rs s) ∙ e
      go (Ok _) s = refl

-- ---- the numbers of a list

pub split : (s t : Bool) → cond s t false ≡ true → (s ≡ true) × (t ≡ true)
split true t e = (refl, e)
split false t e = absurd (true≢false (sym e))

-- each of them passes the test ..
abbrev pub each : (ℕ → Bool) → List Rule → Bool
each test [] = true
each test (r ∷ rs) = cond (test r.number) (each test rs) false

-- .. and so does the fault's
pub fault-passes : (test : ℕ → Bool) (rs : List Rule) → each test rs ≡ true → {number a b : ℕ} → first_of rs ≡ Err (breaks number a b) → test number ≡ true
unfolding first_of
fault-passes test [] s e = absurd (some_fault (sym e))
fault-passes test (r ∷ rs) s {number} {a} {b} e =
    let (h, t) = split (test r.number) (each test rs) s in
    go h (λ l. fault-passes test rs t l) (place_of r.search) e
  where
    go : test r.number ≡ true → (first_of rs ≡ Err (breaks number a b) → test number ≡ true) → (p : Option (ℕ × ℕ))
        → or_else r.number p (first_of rs) ≡ Err (breaks number a b) → test number ≡ true
    go h k (Some (c, d)) e = rw (one_fault e).0 at h
    go h k None e = k e

-- each number is above n
abbrev pub above : ℕ → List Rule → Bool
above n = each (ltb n)

-- where each is above 0, the number 0 says that none applies
pub number_0 : (rs : List Rule) → above 0 rs ≡ true → fault_number (first_of rs) ≡ 0 → Passes rs
number_0 rs n e = go (first_of rs) refl e
  where
    go : (x : Outcome) → first_of rs ≡ x → fault_number x ≡ 0 → x ≡ Ok tt
    go (Err x) s e = absurd (omega (arith, ltb-true 0 x.number (fault-passes (ltb 0) rs n s)))
    go (Ok _) s e = refl

-- ---- the lowest number wins

unfoldable pub ascending : List Rule → Bool
ascending [] = true
ascending (r ∷ rs) = cond (above r.number rs) (ascending rs) false

pub above-each : (n : ℕ) (rs : List Rule) → above n rs ≡ true → (k : ℕ) {c d : ℕ} → place_for rs k ≡ Some (c, d) → n < k
above-each n [] e k p = absurd (differ (sym p))
above-each n (r ∷ rs) e k {c} {d} p =
    let (h, t) = split (ltb n r.number) (above n rs) e in
    go (λ q. above-each n rs t k q) (ltb-true n r.number h) (eqb r.number k) refl p
  where
    go : (place_for rs k ≡ Some (c, d) → n < k) → n < r.number → (t : Bool) → eqb r.number k ≡ t
        → cond t (place_of r.search) (place_for rs k) ≡ Some (c, d) → n < k
    go h l true s q = omega (arith, eqb-true r.number k s)
    go h l false s q = h q

-- "The lowest number that applies anywhere in the tables wins": no rule that applies has a lower number than the first fault
pub lowest-wins : (rs : List Rule) → ascending rs ≡ true → {number a b : ℕ} → first_of rs ≡ Err (breaks number a b)
    → (k : ℕ) {c d : ℕ} → place_for rs k ≡ Some (c, d) → number ≤ k
unfolding first_of ascending
lowest-wins [] s e k p = absurd (differ (sym p))
lowest-wins (r ∷ rs) s {number} {a} {b} e k {c} {d} p =
    let (h, t) = split (above r.number rs) (ascending rs) s in
    go (λ i q. lowest-wins rs t i k q) (λ q. above-each r.number rs h k q) (place_of r.search) refl e (eqb r.number k) refl p
  where
    go : (first_of rs ≡ Err (breaks number a b) → place_for rs k ≡ Some (c, d) → number ≤ k) → (place_for rs k ≡ Some (c, d) → r.number < k)
        → (x : Option (ℕ × ℕ)) → place_of r.search ≡ x → or_else r.number x (first_of rs) ≡ Err (breaks number a b)
        → (t : Bool) → eqb r.number k ≡ t → cond t (place_of r.search) (place_for rs k) ≡ Some (c, d) → number ≤ k
    go h up (Some (x, y)) s e true i q = omega (arith, (one_fault e).0, eqb-true r.number k i)
    go h up (Some (x, y)) s e false i q = omega (arith, (one_fault e).0, up q)
    go h up None s e true i q = absurd (differ (sym q ∙ s))
    go h up None s e false i q = h e q
