-- The loop that walks until it stops, and writes the trail. Assumes nothing.
use Rattle.std.specs.Prelude.{◌≡◌, refl, List, ◌++◌, ℤ, length, set, drop}
use Rattle.std.proofs.Common.{sym, ◌∙◌, arith, length-append, length-drop, drop-set-lt}
use Rattle.std.proofs.Math.Path.{ap, subst}
use Prim.Native.Nat.{ℕ, suc, ◌+◌, ◌-◌, ◌≤◌, ◌<◌}
use Rattle.std.proofs.Math.ListN.{length-set}
use Rattle.points.specs.Points.{vertices, Vertex}
use Rattle.tables.specs.Tables.{most_vertices}
use Rattle.index.specs.declared.Edge.{Edge}
use Rattle.edges.specs.Index.{Leaving}
use Rattle.flat.specs.Facet.{Measured}
use Rattle.direction.specs.Direction.{Permitted}
use Rattle.climb.specs.Move.{begin, step}
use Rattle.climb.specs.Ready.{Ready}
use Rattle.climb.specs.Stepped.{Stepped, moved, stayed}
use Rattle.climb.specs.Course.{after, finish, stood, trailed}
use Rattle.climb.specs.Rise.{Going, going_0, going_more, same-direction, by_step, stopped, stood-length, trail_more}
use Rattle.direction.specs.declared.Direction.{Direction}
use Rattle.climb.specs.declared.Standing.{Standing}

-- what a walk asks: tables that pass 1 to 3, the index of their edges, a permitted direction, a start that there is, and room for V entries
pub record Climbs (points : List ℤ) (corners begins : List ℕ) (edges : List Edge) (heads : List ℕ) (s : Standing) (trail : List ℕ) : Type 0 where
  pub measured : Measured points corners begins
  pub leaving : Leaving corners begins edges heads
  pub permitted : Permitted s.direction
  pub vertex : Vertex points s.spot.vertex
  pub begun : s ≡ begin points s.direction s.spot.vertex
  pub room : vertices points ≤ length trail

-- a walk that begins has made no move
pub climbs : {points : List ℤ} {corners begins : List ℕ} {edges : List Edge} {heads : List ℕ} {d : Direction} {start : ℕ} {s : Standing} {trail : List ℕ}
    → s ≡ begin points d start → Measured points corners begins → Leaving corners begins edges heads → Permitted d → Vertex points start
    → vertices points ≤ length trail → Climbs points corners begins edges heads s trail
climbs e m l p v r = rw e (record { measured = m; leaving = l; permitted = p; vertex = v; begun = refl; room = r })

-- what it leaves: the walk where it stops, and the trail
pub record Climbed (points : List ℤ) (corners begins : List ℕ) (s : Standing) (trail : List ℕ) (r : Standing) (t : List ℕ) : Type 0 where
  pub last : r ≡ finish points corners begins s.direction s.spot.vertex
  pub lists : t ≡ trailed points corners begins s.direction s.spot.vertex trail

-- after k moves from s: the walk stands `here`, and the trail has the vertices stood on, over the entries that it had
pub record Climbing (points : List ℤ) (corners begins : List ℕ) (edges : List Edge) (heads : List ℕ) (s : Standing) (lent trail : List ℕ)
    (here : Standing) (k : ℕ) : Type 0 where
  pub climbs : Climbs points corners begins edges heads s lent
  pub going : Going points corners begins s.direction s.spot.vertex k
  pub at : here ≡ after points corners begins s.direction s.spot.vertex k
  pub wrote : trail ≡ stood points corners begins s.direction s.spot.vertex (suc k) ++ drop (suc k) lent

module _ {points : List ℤ} {corners begins : List ℕ} {edges : List Edge} {heads : List ℕ} {s : Standing} {lent : List ℕ}
    (C : Climbs points corners begins edges heads s lent) where
  abbrev d : Direction
  d = s.direction

  abbrev start : ℕ
  start = s.spot.vertex

  -- what a step asks, after k moves
  going_ready : {k : ℕ} → Going points corners begins d start k → Ready points corners begins edges heads (after points corners begins d start k)
  going_ready {k} G =
      let e = same-direction points corners begins d start k in
      record {
        measured = C.measured;
        leaving = C.leaving;
        permitted = rw e C.permitted;
        placed = rw e G.placed;
        few = omega (arith, G.moves, G.left);
      }

  pub some_room : 0 < length lent
  some_room = omega (arith, C.vertex, C.room)

  -- the start is written before the loop
  pub climbing_0 : Climbing points corners begins edges heads s (set lent 0 start) (set lent 0 start) s s.moves
  unfolding after stood
  climbing_0 =
      subst (Climbing points corners begins edges heads s (set lent 0 start) (set lent 0 start) s) (sym (ap (λ r. r.moves) C.begun)) (record {
        climbs = record {
          measured = C.measured;
          leaving = C.leaving;
          permitted = C.permitted;
          vertex = C.vertex;
          begun = C.begun;
          room = rw length-set C.room;
        };
        going = going_0 points corners begins d start C.vertex;
        at = C.begun;
        wrote = rw (drop-set-lt 1 lent 0 start (omega arith)) (trail_more points corners begins d start {k = 0} lent some_room);
      })

-- .. and the rest of the trail is as it was lent
pub climbed : {points : List ℤ} {corners begins : List ℕ} {s r : Standing} {lent t : List ℕ} (x : ℕ)
    → Climbed points corners begins s (set lent 0 x) r t → Climbed points corners begins s lent r t
climbed {points} {corners} {begins} {s} {lent = lent} x C =
    let n = (finish points corners begins s.direction s.spot.vertex).moves + 1 in
    let listed = stood points corners begins s.direction s.spot.vertex n in
    record { last = C.last; lists = C.lists ∙ ap (λ rest. listed ++ rest) (drop-set-lt n lent 0 x (omega arith)) }

module _ {points : List ℤ} {corners begins : List ℕ} {edges : List Edge} {heads : List ℕ} {s : Standing} {lent trail : List ℕ}
    {here : Standing} {k : ℕ} (K : Climbing points corners begins edges heads s lent trail here k) where
  abbrev walk : ℕ → Standing
  walk = after points corners begins s.direction s.spot.vertex

  pub climbing_length : length trail ≡ length lent
  climbing_length =
      rw (K.wrote, length-append, stood-length points corners begins s.direction s.spot.vertex (suc k), length-drop)
      (omega (arith, K.going.left, K.climbs.room))

  here_moves : here.moves ≡ k
  here_moves = ap (λ r. r.moves) K.at ∙ K.going.moves

  stepped : Stepped points corners begins s.direction (walk k) (walk (suc k))
  stepped = by_step points corners begins s.direction s.spot.vertex k

  -- a step on
  pub on : step points corners begins here ≡ walk (suc k)
  unfolding after
  on = ap (step points corners begins) K.at

  pub climbing_ready : Ready points corners begins edges heads here
  climbing_ready = rw K.at (going_ready K.climbs K.going)

  -- ---- the step moved

  module _ {next : Standing} (m : (next ≡ step points corners begins here) × (here.moves < next.moves)) where
    next_is : next ≡ walk (suc k)
    next_is = m.0 ∙ on

    moves : Going points corners begins s.direction s.spot.vertex (suc k)
    moves = elim stepped [
      | moved u v h up e ↦ going_more points corners begins s.direction s.spot.vertex K.going v up e
      | stayed h e ↦ absurd (omega (arith, m.1, ap (λ r. r.moves) K.at, ap (λ r. r.moves) (next_is ∙ e)))
    ]

    next-moves : next.moves ≡ suc k
    next-moves = ap (λ r. r.moves) next_is ∙ moves.moves

    pub climbing_room : next.moves < length trail
    climbing_room = rw climbing_length (omega (arith, next-moves, moves.left, K.climbs.room))

    pub climbing_few : next.moves < most_vertices
    climbing_few = omega (arith, next-moves, moves.left, K.climbs.measured.sound.named.few)

    pub climbing_less : vertices points - next.moves < vertices points - here.moves
    climbing_less = omega (arith, next-moves, here_moves, moves.left)

    pub climbing_more : Climbing points corners begins edges heads s lent (set trail next.moves next.spot.vertex) next next.moves
    climbing_more =
        subst (λ n. Climbing points corners begins edges heads s lent (set trail n next.spot.vertex) next n) (sym next-moves) (record {
          climbs = K.climbs;
          going = moves;
          at = next_is;
          wrote =
              rw (K.wrote, next_is)
              (trail_more points corners begins s.direction s.spot.vertex {k = suc k} lent (omega (arith, moves.left, K.climbs.room)));
        })

  -- ---- it did not: the walk has stopped

  -- the moves tell that it did not
  pub stays : (step points corners begins here).moves ≤ here.moves → step points corners begins here ≡ here
  stays l = elim stepped [
    | moved u v h up e ↦ absurd (omega (arith, l, ap (λ r. r.moves) K.at, ap (λ r. r.moves) (on ∙ e)))
    | stayed h e ↦ on ∙ e ∙ sym K.at
  ]

  pub climbing_end : step points corners begins here ≡ here → Climbed points corners begins s lent here trail
  climbing_end h =
      let e = stopped points corners begins s.direction s.spot.vertex K.going (sym on ∙ h ∙ K.at) in
      let n : (finish points corners begins s.direction s.spot.vertex).moves + 1 ≡ suc k = omega (arith, ap (λ r. r.moves) e, K.going.moves) in
      record { last = K.at ∙ sym e; lists = rw (n, K.wrote) }
