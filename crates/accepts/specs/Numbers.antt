-- "The lowest number that applies anywhere in the tables wins. Within it, the first place wins": a number and a place are answered exactly when the
-- tables pass every number below it and it applies first at this place. Assumes nothing.
use Rattle.std.specs.Prelude.{◌≡◌, refl, ◌↔◌, true, List, ℕ, ◌<◌, ℤ, Option, Some, None, Ok, Err}
use Rattle.std.proofs.Common.{sym, ◌∙◌, arith, eq-eqb, ne_eqb}
use Rattle.std.proofs.Math.Path.{ap}
use Rattle.std.proofs.Math.Decide.{dec_lt}
use Rattle.tables.specs.Found.{one_place}
use Rattle.tables.specs.Search.{of_all, applies_never, first_applies, differ}
use Rattle.tables.specs.Size.{is_size}
use Rattle.answers.specs.Answer.{Outcome, breaks, fault, answer_of}
use Rattle.answers.specs.Order.{Rule, Given, here, after, given, first_of, place_for, none_for, above, ascending, split, above-each, lowest-wins}
use Rattle.limits.specs.InOrder.{InOrder, laid}
use Rattle.pair.specs.Pair.{Paired, pair-none}
use Rattle.bridge.specs.Surface.{tables_of}
use Rattle.bridge.proofs.Closed.{is_closed}
use Rattle.solid.specs.Tables.{Closed}
use Rattle.stages.specs.Known.{measured}
use Rattle.judge.specs.Judge.{rules, judged}
use Rattle.accepts.specs.Rows.{rules-ascend}

-- no rule of the list with a number below n applies anywhere
abbrev pub PassesBelow : List Rule → ℕ → Type 0
PassesBelow rs n = (k : ℕ) → k < n → place_for rs k ≡ None

-- a search that doesn't find nothing finds a place
pub some_place : {x : Option (ℕ × ℕ)} → (x ≡ None → ⊥) → (a b : ℕ) × (x ≡ Some (a, b))
some_place {x = Some (a, b)} h = (a, b, refl)
some_place {x = None} h = absurd (h refl)

-- ---- in a list whose numbers ascend

given_place : {rs : List Rule} {k a b : ℕ} → ascending rs ≡ true → Given rs (Err (breaks k a b)) → place_for rs k ≡ Some (a, b)
unfolding ascending
given_place e (here {r} h) = rw (eq-eqb r.number r.number refl) (first_applies r.search h)
given_place {k = k} e (after {r} {rs} h g) =
    let (u, v) = split (above r.number rs) (ascending rs) e in
    let p = given_place v g in
    let l = above-each r.number rs u k p in
    rw (ne_eqb r.number k (λ z. omega arith)) p

module _ (rs : List Rule) (up : ascending rs ≡ true) (k a b : ℕ) where
  first_exactly : first_of rs ≡ Err (breaks k a b) ↔ (PassesBelow rs k × (place_for rs k ≡ Some (a, b)))
  first_exactly = (λ e. (below e, given_place up (rw e at (given rs))), λ (p, e). is p e (first_of rs) refl)
    where
      below : first_of rs ≡ Err (breaks k a b) → PassesBelow rs k
      below e j l = go (place_for rs j) refl
        where
          go : (x : Option (ℕ × ℕ)) → place_for rs j ≡ x → x ≡ None
          go (Some (c, d)) s = absurd (omega (arith, lowest-wins rs up e j s))
          go None s = refl

      is : PassesBelow rs k → place_for rs k ≡ Some (a, b) → (x : Outcome) → first_of rs ≡ x → x ≡ Err (breaks k a b)
      is p e (Err x) s =
          let q = given_place up (rw s at (given rs)) in
          elim (dec_lt x.number k) [
            | yes l ↦ absurd (differ (sym q ∙ p x.number l))
            | no l ↦
                let z : x.number ≡ k = omega (arith, lowest-wins rs up s k e) in
                let (u, v) = one_place (sym q ∙ ap (place_for rs) z ∙ e) in
                rw (← z, ← u, ← v) refl
          ]
      is p e (Ok _) s = absurd (differ (sym e ∙ none_for rs s k))

-- ---- the judge's

module _ (points : List ℤ) (corners begins : List ℕ) where
  -- the tables pass the numbers below n
  abbrev pub Pass : ℕ → Type 0
  Pass n = PassesBelow (rules points corners begins) n

  -- number k applies first at (a, b)
  abbrev pub AppliesAt : ℕ → ℕ → ℕ → Type 0
  AppliesAt k a b = place_for (rules points corners begins) k ≡ Some (a, b)

  -- an answer's number and places are those of the first fault
  is_fault : (x : Outcome) {k : ℕ} → 0 < k → (answer_of points corners begins x).number ≡ k
      → x ≡ Err (breaks k (answer_of points corners begins x).first (answer_of points corners begins x).second)
  is_fault (Err x) l e = rw (← e) refl
  is_fault (Ok _) l e = absurd (omega arith)

  module _ (k : ℕ) (l : 0 < k) where
    pub answered_exactly : (a b : ℕ) → judged points corners begins ≡ fault k a b ↔ (Pass k × AppliesAt k a b)
    unfolding judged
    answered_exactly a b =
        let rs = rules points corners begins in
        let (to, back) = first_exactly rs (rules-ascend points corners begins) k a b in (
          λ e.
              let first : (answer_of points corners begins (first_of rs)).first ≡ a = ap (λ x. x.first) e in
              let second : (answer_of points corners begins (first_of rs)).second ≡ b = ap (λ x. x.second) e in
              to (rw (first, second) at (is_fault (first_of rs) l (ap (λ x. x.number) e))),
          λ h. ap (answer_of points corners begins) (back h),
        )

    pub number_exactly : (judged points corners begins).number ≡ k ↔ (Pass k × (a b : ℕ) × AppliesAt k a b)
    unfolding judged
    number_exactly = (
      λ e.
          let b = is_fault (first_of (rules points corners begins)) l e in
          let (P, h) = (answered_exactly _ _).0 (ap (answer_of points corners begins) b) in
          (P, _, _, h),
      λ (P, a, b, h). ap (λ x. x.number) ((answered_exactly a b).1 (P, h)),
    )

  -- what tables that pass 1 to 3, 1 to 6 and 1 to 8 have
  pub in_order : {n : ℕ} → Pass n → 3 < n → InOrder points corners begins
  in_order P l = record {
    sizes = applies_never (of_all (is_size points corners begins)) (P 1 (omega arith));
    ranges = P 2 (omega arith);
    numbers = P 3 (omega arith);
  }

  pub paired : {n : ℕ} → Pass n → 6 < n → Paired corners begins
  paired P l = pair-none (laid (in_order P (omega arith))) (P 6 l)

  pub closed : {n : ℕ} → Pass n → 8 < n → Closed (tables_of points corners begins)
  closed P l =
      is_closed points (measured (in_order P (omega arith))).sound (record {
        no_4 = P 4 (omega arith);
        no_5 = P 5 (omega arith);
        no_6 = P 6 (omega arith);
        no_7 = P 7 (omega arith);
        no_8 = P 8 l;
      })
