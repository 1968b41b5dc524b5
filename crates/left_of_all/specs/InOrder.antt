-- The refusals in their order, read backwards: what an answer tells of those that come before it. Assumes nothing.
use Rattle.std.specs.Prelude.{◌≡◌, Bool, not, List, ◌≢◌, ◌↔◌, ℕ, T, eqb, ℤ, length}
use Rattle.std.proofs.Math.Path.{refl}
use Rattle.std.proofs.Common.{sym, ◌∙◌, ap, subst, eq-eqb}
use Rattle.std.proofs.Math.Bool.{true, false, cond}
use Rattle.std.proofs.lemmas.Bool.{not-false}
use Rattle.whole.specs.First.{Nowhere, Lowest, pick-lowest, pick-nowhere, picked, not_picked}
use Rattle.outline.specs.declared.Verdict.{Verdict}
use Rattle.once_round.specs.Words.{count, few, out_of_range, left, not_left, wound, Counted, Limits, LocallyConvex}
use Rattle.outline.specs.Outline.{verdict, refuse, judged_turns, judged_outline}
use Rattle.once_round.specs.Limits.{counted, not_few, none_out, in_range}

-- two numbers differ, by computation
abbrev pub Other : ℕ → ℕ → Type 0
Other a b = T (not (eqb a b))

pub differ : {a b i j : ℕ} → Other a b → verdict a i ≢ verdict b j
differ {a} {b} t e = subst (λ c. T (not c)) (eq-eqb a b (ap (λ v. v.number) e)) t

-- ---- one refusal, and what comes later

module _ (number : ℕ) (test : ℕ → Bool) (n : ℕ) (later : Verdict) where
  -- an answer with another number
  pub passed : (m i : ℕ) → Other number m → (refuse number test n later ≡ verdict m i) ↔ (Nowhere test n × (later ≡ verdict m i))
  passed m i t = (to, λ h. sym (pick-nowhere (verdict number) later h.0) ∙ h.1)
    where
      to : refuse number test n later ≡ verdict m i → Nowhere test n × (later ≡ verdict m i)
      to = not_picked test n (verdict number) later (verdict m i) (λ k. differ t)

  -- an answer with this number
  pub refused : (i : ℕ) → later ≢ verdict number i → (refuse number test n later ≡ verdict number i) ↔ Lowest test n i
  refused i other = (to, λ h. sym (pick-lowest (verdict number) later h))
    where
      to : refuse number test n later ≡ verdict number i → Lowest test n i
      to e =
          let p = picked test n (verdict number) later (verdict number i) other e in
          rw (ap (λ v. v.place) p.1) at p.0

-- ---- the four

module _ (points : List ℤ) where
  abbrev pub after_few : Verdict
  after_few = refuse 2 (out_of_range points) (count points) (judged_turns points)

  abbrev pub after_left : Verdict
  after_left = refuse 26 (wound points) (count points) (verdict 0 (count points))

  pub past_few : (m i : ℕ) → Other 24 m → (judged_outline points ≡ verdict m i) ↔ (Counted points × (after_few ≡ verdict m i))
  unfolding judged_outline
  past_few m i t = (to (few (length points)) refl, λ h. rw (not_few points h.0) h.1)
    where
      to : (c : Bool) → few (length points) ≡ c → cond c (verdict 24 0) after_few ≡ verdict m i → Counted points × (after_few ≡ verdict m i)
      to true e h = absurd (differ t h)
      to false e h = (counted points e, h)

  pub past_range : (m i : ℕ) → Other 24 m → Other 2 m
      → (judged_outline points ≡ verdict m i) ↔ (Limits points × (judged_turns points ≡ verdict m i))
  past_range m i t u = (to, λ h. (past_few m i t).1 (h.0.counted, ranges.1 (λ j l. none_out points h.0.range j, h.1)))
    where
      ranges : (after_few ≡ verdict m i) ↔ (Nowhere (out_of_range points) (count points) × (judged_turns points ≡ verdict m i))
      ranges = passed 2 (out_of_range points) (count points) (judged_turns points) m i u

      to : judged_outline points ≡ verdict m i → Limits points × (judged_turns points ≡ verdict m i)
      to e =
          let a = (past_few m i t).0 e in
          let b = ranges.0 a.1 in
          (record { counted = a.0; range = in_range points a.0 b.0 }, b.1)

  turned : (m i : ℕ) → Other 25 m → (judged_turns points ≡ verdict m i) ↔ (Nowhere (not_left points) (count points) × (after_left ≡ verdict m i))
  unfolding judged_turns
  turned m i t = passed 25 (not_left points) (count points) after_left m i t

  pub past_left : (m i : ℕ) → Other 24 m → Other 2 m → Other 25 m
      → (judged_outline points ≡ verdict m i) ↔ (LocallyConvex points × (after_left ≡ verdict m i))
  past_left m i t u w = (to, λ h. (past_range m i t u).1 (h.0.limits, (turned m i w).1 (λ j l. ap not (h.0.turns j l), h.1)))
    where
      to : judged_outline points ≡ verdict m i → LocallyConvex points × (after_left ≡ verdict m i)
      to e =
          let a = (past_range m i t u).0 e in
          let b = (turned m i w).0 a.1 in
          (record { limits = a.0; turns = λ j l. not-false (left points j) (b.0 j l) }, b.1)

  pub past_wound : (m i : ℕ) → Other 26 m
      → (after_left ≡ verdict m i) ↔ (Nowhere (wound points) (count points) × (verdict 0 (count points) ≡ verdict m i))
  past_wound = passed 26 (wound points) (count points) (verdict 0 (count points))

  -- ---- no number is answered later in the order

  pub not_after_left : (m i : ℕ) → Other 26 m → Other 0 m → after_left ≢ verdict m i
  not_after_left m i t u e = differ u ((past_wound m i t).0 e).1

  pub not_turns : (m i : ℕ) → Other 25 m → Other 26 m → Other 0 m → judged_turns points ≢ verdict m i
  not_turns m i t u w e = not_after_left m i u w ((turned m i t).0 e).1

  pub not_after_few : (i : ℕ) → after_few ≢ verdict 24 i
  not_after_few i e = not_turns 24 i tt tt tt ((passed 2 (out_of_range points) (count points) (judged_turns points) 24 i tt).0 e).1
