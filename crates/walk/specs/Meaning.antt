-- The walk's outcomes: each is given exactly when its constructor says, and no two fit the promise. Assumes nothing.
use Rattle.std.specs.Prelude.{◌≡◌, refl, ◌↔◌, Bool, true, false, List, ℕ, suc, ◌≤◌, ◌<◌, ℤ, length}
use Rattle.std.proofs.Common.{sym, ap, ◌∙◌, subst, arith}
use Rattle.std.proofs.Math.Decide.{ℕ_discrete, dec_lt}
use borrow.Author.Tests.{ne_eqb, le-leb, lt-leb, lt-ltb, le-ltb}
use Rattle.points.specs.Points.{vertices}
use Rattle.index.specs.declared.Edge.{Edge}
use Rattle.answers.specs.Answer.{refused}
use Rattle.edges.specs.Index.{Indexed, leaves-each}
use Rattle.judge.specs.Judge.{judged}
use Rattle.accepts.specs.Meaning.{is_measured}
use Rattle.direction.specs.Direction.{is_wrong, Permitted, permitted, not_wrong, wrong_exactly}
use Rattle.climb.specs.Move.{begin}
use Rattle.climb.specs.Course.{finish, trailed}
use Rattle.climb.specs.Climb.{Climbs, climbs, Climbed}
use Rattle.walk.specs.Walk.{halted, arrived, from_start, walked, trail_after}
use Rattle.direction.specs.declared.Direction.{Direction}
use Rattle.climb.specs.declared.Standing.{Standing}
use Rattle.walk.specs.declared.Walked.{Walked}

module _ (points : List ℤ) (corners begins : List ℕ) (d : Direction) (start : ℕ) (trail : List ℕ) where
  abbrev pub Accepted : Type 0
  Accepted = (judged points corners begins).number ≡ 0

  -- demand 3: "On an accepted solid, with a permitted direction, a start corner it has and room for the trail"
  pub record Granted : Type 0 where
    pub accepted : Accepted
    pub permitted : Permitted d
    pub corner : start < vertices points
    pub room : vertices points ≤ length trail

  -- an answer, and what the trail then holds
  pub data WalkEnd : Walked → List ℕ → Type 0 where
    -- "1 to 12 as the judge gives"
    JUDGED : ¬ Accepted → WalkEnd (halted (judged points corners begins)) trail
    -- "13 START, start is V or more"
    START : Accepted → vertices points ≤ start → WalkEnd (halted (refused 13)) trail
    -- "14 DIRECTION, a part outside -32,767 to 32,767"
    DIRECTION : Accepted → start < vertices points → ¬ Permitted d → WalkEnd (halted (refused 14)) trail
    -- "15 TRAIL, fewer than V entries"
    TRAIL : Accepted → start < vertices points → Permitted d → length trail < vertices points → WalkEnd (halted (refused 15)) trail
    -- "The answer is last vertex, its height, moves"
    ARRIVED : Granted → WalkEnd (arrived (finish points corners begins d start)) (trailed points corners begins d start trail)

  abbrev Outcome : Walked → List ℕ → Type 0
  Outcome r t = (r ≡ walked points corners begins d start trail) × (t ≡ trail_after points corners begins d start trail)

  refused-by : {n : ℕ} → Accepted → from_start points corners begins d start trail ≡ refused (suc n) → Outcome (halted (refused (suc n))) trail
  unfolding walked trail_after
  refused-by {n} e f = let z = ne_eqb (suc n) 0 (λ q. omega arith) in (rw (e, f, z), rw (e, f, z))

  -- each of them is the outcome ..
  pub walk-end_is : {r : Walked} {t : List ℕ} → WalkEnd r t
      → (r ≡ walked points corners begins d start trail) × (t ≡ trail_after points corners begins d start trail)
  unfolding walked trail_after
  walk-end_is (JUDGED n) = let z = ne_eqb _ _ n in (rw (z, z), rw (z, z))
  walk-end_is (START e l) = refused-by e (rw (le-leb _ _ l))
  walk-end_is (DIRECTION e l n) = refused-by e (rw (lt-leb _ _ l, (wrong_exactly d).1 n))
  walk-end_is (TRAIL e l p m) = refused-by e (rw (lt-leb _ _ l, not_wrong p, lt-ltb _ _ m))
  walk-end_is (ARRIVED G) =
      let l = lt-leb _ _ G.corner in
      let w = not_wrong G.permitted in
      let m = le-ltb _ _ G.room in
      (rw (G.accepted, l, w, m), rw (G.accepted, l, w, m))

  -- a walk that is granted may climb from where it begins, and what the climb leaves is the outcome
  module _ (G : Granted) {s : Standing} (e : s ≡ begin points d start) where
    pub granted_climbs : {edges : List Edge} {heads : List ℕ} → Indexed corners begins edges heads → Climbs points corners begins edges heads s trail
    granted_climbs I = climbs e (is_measured points corners begins G.accepted) (leaves-each I) G.permitted G.corner G.room

    pub climbed_end : {w : Walked} {r : Standing} {t : List ℕ} → w ≡ arrived r → Climbed points corners begins s trail r t
        → (w ≡ walked points corners begins d start trail) × (t ≡ trail_after points corners begins d start trail)
    climbed_end a C =
        let (m, n) = walk-end_is (ARRIVED G) in
        (a ∙ ap arrived (rw e at C.last) ∙ m, rw e at C.lists ∙ n)

  -- .. and the outcome is one of them
  pub walk_end : WalkEnd (walked points corners begins d start trail) (trail_after points corners begins d start trail)
  walk_end = elim (ℕ_discrete (judged points corners begins).number 0) [
    | no n ↦ given (JUDGED n)
    | yes e ↦ elim (dec_lt start (vertices points)) [
      | no l ↦ given (START e (omega arith))
      | yes l ↦ from-direction (is_wrong d) refl e l
    ]
  ]
    where
      given : {r : Walked} {t : List ℕ} → WalkEnd r t → WalkEnd (walked points corners begins d start trail) (trail_after points corners begins d start trail)
      given {r} x = let (p, q) = walk-end_is x in subst (λ s. WalkEnd s (trail_after points corners begins d start trail)) p (subst (λ t. WalkEnd r t) q x)

      from-direction : (b : Bool) → is_wrong d ≡ b → Accepted → start < vertices points
          → WalkEnd (walked points corners begins d start trail) (trail_after points corners begins d start trail)
      from-direction true w e l = given (DIRECTION e l ((wrong_exactly d).0 w))
      from-direction false w e l = elim (dec_lt (length trail) (vertices points)) [
        | yes m ↦ given (TRAIL e l (permitted d w) m)
        | no m ↦ given (ARRIVED (record { accepted = e; permitted = permitted d w; corner = l; room = omega arith }))
      ]

  -- the number is 0 exactly where all is granted
  pub granted_exactly : (walked points corners begins d start trail).answer.number ≡ 0 ↔ Granted
  granted_exactly = (
    λ e. granted walk_end e,
    λ G. sym (ap (λ r. r.answer.number) (walk-end_is (ARRIVED G)).0),
  )
    where
      granted : {r : Walked} {t : List ℕ} → WalkEnd r t → r.answer.number ≡ 0 → Granted
      granted (JUDGED n) e = absurd (n e)
      granted (START a l) e = absurd (omega arith)
      granted (DIRECTION a l n) e = absurd (omega arith)
      granted (TRAIL a l p m) e = absurd (omega arith)
      granted (ARRIVED G) e = G

  -- no two outcomes satisfy the walk's promise
  pub one_outcome : {r s : Walked} {t u : List ℕ} → WalkEnd r t → WalkEnd s u → (r ≡ s) × (t ≡ u)
  one_outcome x y =
      let (p, q) = walk-end_is x in
      let (m, n) = walk-end_is y in
      (p ∙ sym m, q ∙ sym n)
