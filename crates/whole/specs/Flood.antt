-- Flooding by marks and a queue: what is reached from 0 by arcs, n of them, from a p to b p, among m. Assumes nothing.
use Rattle.std.specs.Prelude.{◌≡◌, refl, Bool, cond, List, ℕ, ◌+◌, ◌≤◌, ◌<◌, length, get_or, set, replicate}
use Rattle.std.proofs.Math.Path.{sym}
use Rattle.std.proofs.Common.{◌∙◌, true≢false, get_or-set_same, get_or-set_other}
use Rattle.std.proofs.Math.Bool.{true, false, and-true}
use native.Mathlib.Omega.{arith}
use Rattle.std.proofs.Math.Decide.{ℕ_discrete}
use Rattle.std.proofs.Math.ListN.{length-set}
use Rattle.std.proofs.lemmas.List.{length-replicate}
use borrow.Author.Tests.{eq-eqb, ne_eqb}
use Rattle.whole.specs.Count.{count_below, count-but, count-le, but, same_bits, gap}
use Rattle.whole.specs.Filled.{Blank, blank}
use Rattle.whole.specs.Rounds.{Reached, first, arc}

-- two tables of one size: the mark of g is the first's entry g, and the queue's entry i is the second's
abbrev pub marked : List Bool → ℕ → Bool
marked marks g = get_or marks g false

abbrev pub entry_at : List ℕ → ℕ → ℕ
entry_at queue i = get_or queue i 0

-- the two as they are lent to be filled
pub record Unmarked (size : ℕ) (marks : List Bool) (queue : List ℕ) : Type 0 where
  pub unmarked : Blank false size marks
  pub empty : Blank 0 size queue

-- the queue's first `tail` entries are the marked ones of m, and all are reached
pub record Queue (size m : ℕ) (R : ℕ → Type 0) (marks : List Bool) (queue : List ℕ) (tail : ℕ) : Type 0 where
  pub marks_size : length marks ≡ size
  pub queue_size : length queue ≡ size
  pub fits : m ≤ size
  pub count : count_below (marked marks) m ≡ tail
  pub below : (i : ℕ) → i < tail → entry_at queue i < m
  pub reach : (i : ℕ) → i < tail → R (entry_at queue i)
  pub listed : (g : ℕ) → g < m → marked marks g ≡ true → (i : ℕ) × (i < tail) × (entry_at queue i ≡ g)

-- what pushes leave
pub record Kept (marks : List Bool) (queue : List ℕ) (tail : ℕ) (marks' : List Bool) (queue' : List ℕ) (tail' : ℕ) : Type 0 where
  pub more : tail ≤ tail'
  pub entry : (i : ℕ) → i < tail → entry_at queue' i ≡ entry_at queue i
  pub still : (g : ℕ) → marked marks g ≡ true → marked marks' g ≡ true

pub record Pushed (size m : ℕ) (R : ℕ → Type 0) (marks : List Bool) (queue : List ℕ) (tail : ℕ)
    (marks' : List Bool) (queue' : List ℕ) (tail' g : ℕ) : Type 0 where
  pub queued : Queue size m R marks' queue' tail'
  pub kept : Kept marks queue tail marks' queue' tail'
  pub is : marked marks' g ≡ true

keep : (marks : List Bool) (queue : List ℕ) (tail : ℕ) → Kept marks queue tail marks queue tail
keep marks queue tail = record { more = omega arith; entry = λ i l. refl; still = λ g e. e }

module _ {size m : ℕ} {R : ℕ → Type 0} {marks : List Bool} {queue : List ℕ} {tail : ℕ} (Q : Queue size m R marks queue tail) where
  -- the queue holds different ones
  pub tail_le : tail ≤ m
  tail_le = omega (arith, Q.count, count-le (marked marks) m)

  push_old : {g : ℕ} → marked marks g ≡ true → Pushed size m R marks queue tail marks queue tail g
  push_old e = record { queued = Q; kept = keep marks queue tail; is = e }

  module _ {g : ℕ} (l : g < m) (e : marked marks g ≡ false) where
    -- the marks once g has one
    with_mark : List Bool
    with_mark = set marks g true

    is_set : marked with_mark g ≡ true
    unfolding with_mark
    is_set = get_or-set_same marks g true false (omega (arith, Q.marks_size, Q.fits))

    not_set : {h : ℕ} → (h ≡ g → ⊥) → marked with_mark h ≡ marked marks h
    unfolding with_mark
    not_set {h} d = get_or-set_other marks g h true false d

    one_more : count_below (marked with_mark) m ≡ tail + 1
    one_more =
        let c = count-but (marked with_mark) g m l is_set in
        let b = same_bits (but (marked with_mark) g) (marked marks) m same in
        omega (arith, Q.count)
      where
        same : (h : ℕ) → h < m → but (marked with_mark) g h ≡ marked marks h
        same h k = elim (ℕ_discrete h g) [
          | yes z ↦ rw (z, is_set, eq-eqb g g refl, e)
          | no d ↦ rw (not_set d, ne_eqb h g d, and-true)
        ]

    some_room : tail < size
    some_room = omega (arith, one_more, count-le (marked with_mark) m, Q.fits)

    last : entry_at (set queue tail g) tail ≡ g
    last = get_or-set_same queue tail g 0 (omega (arith, Q.queue_size, some_room))

    old : {i : ℕ} → (i ≡ tail → ⊥) → entry_at (set queue tail g) i ≡ entry_at queue i
    old {i} d = get_or-set_other queue tail i g 0 d

    push_new : R g → Pushed size m R marks queue tail (set marks g true) (set queue tail g) (tail + 1) g
    unfolding with_mark
    push_new r = record {
      queued = record {
        marks_size = length-set marks g true ∙ Q.marks_size;
        queue_size = length-set queue tail g ∙ Q.queue_size;
        fits = Q.fits;
        count = one_more;
        below = λ i b. elim (ℕ_discrete i tail) [
          | yes z ↦ rw (z, last) l
          | no d ↦ rw (old d) (Q.below i (omega arith))
        ];
        reach = λ i b. elim (ℕ_discrete i tail) [
          | yes z ↦ rw (z, last) r
          | no d ↦ rw (old d) (Q.reach i (omega arith))
        ];
        listed = λ h k x. elim (ℕ_discrete h g) [
          | yes z ↦ (tail, omega arith, last ∙ sym z)
          | no d ↦ let (i, b, z) = Q.listed h k (sym (not_set d) ∙ x) in (i, omega arith, old (λ y. omega arith) ∙ z)
        ];
      };
      kept = record {
        more = omega arith;
        entry = λ i b. old (λ y. omega arith);
        still = λ h x. elim (ℕ_discrete h g) [ yes z ↦ rw z is_set | no d ↦ not_set d ∙ x ];
      };
      is = is_set;
    }

-- ---- a push, as the code does it

unfoldable pub push_marks : List Bool → ℕ → List Bool
push_marks marks g = cond (marked marks g) marks (set marks g true)

unfoldable pub push_queue : List Bool → List ℕ → ℕ → ℕ → List ℕ
push_queue marks queue tail g = cond (marked marks g) queue (set queue tail g)

unfoldable pub push_tail : List Bool → ℕ → ℕ → ℕ
push_tail marks tail g = cond (marked marks g) tail (tail + 1)

-- what the code asks: room where g is new
pub record Pushing (size : ℕ) (marks : List Bool) (tail g : ℕ) : Type 0 where
  pub place : g < size
  pub short : tail ≤ size
  pub room : marked marks g ≡ false → tail < size

-- what it leaves
pub record Push (marks : List Bool) (queue : List ℕ) (tail g : ℕ) (marks' : List Bool) (queue' : List ℕ) (tail' : ℕ) : Type 0 where
  pub marking : marks' ≡ push_marks marks g
  pub queuing : queue' ≡ push_queue marks queue tail g
  pub end : tail' ≡ push_tail marks tail g

module _ {marks : List Bool} {queue : List ℕ} {tail g : ℕ} where
  pub push_stored : marked marks g ≡ false → Push marks queue tail g (set marks g true) (set queue tail g) (tail + 1)
  unfolding push_marks push_queue push_tail
  push_stored e = record { marking = rw e; queuing = rw e; end = rw e }

  pub push_none : marked marks g ≡ true → Push marks queue tail g marks queue tail
  unfolding push_marks push_queue push_tail
  push_none e = record { marking = rw e; queuing = rw e; end = rw e }

module _ {size m : ℕ} {R : ℕ → Type 0} {marks : List Bool} {queue : List ℕ} {tail : ℕ} (Q : Queue size m R marks queue tail) {g : ℕ} (l : g < m) where
  pub pushing : Pushing size marks tail g
  pushing = record { place = omega (arith, Q.fits); short = omega (arith, tail_le Q, Q.fits); room = λ e. some_room Q l e }

  pub push : {marks' : List Bool} {queue' : List ℕ} {tail' : ℕ} → R g → Push marks queue tail g marks' queue' tail'
      → Pushed size m R marks queue tail marks' queue' tail' g
  unfolding push_marks push_queue push_tail
  push r P = rw (P.marking, P.queuing, P.end) (go (marked marks g) refl)
    where
      go : (t : Bool) → marked marks g ≡ t
          → Pushed size m R marks queue tail (cond t marks (set marks g true)) (cond t queue (set queue tail g)) (cond t tail (tail + 1)) g
      go true e = push_old Q e
      go false e = push_new Q l e r

-- ---- a visit: all that b p names for p from lo to hi are pushed

pub record Spread (size m : ℕ) (R : ℕ → Type 0) (b : ℕ → ℕ) (lo hi : ℕ) (marks : List Bool) (queue : List ℕ) (tail : ℕ)
    (marks' : List Bool) (queue' : List ℕ) (tail' : ℕ) : Type 0 where
  pub queued : Queue size m R marks' queue' tail'
  pub kept : Kept marks queue tail marks' queue' tail'
  pub done : (p : ℕ) → lo ≤ p → p < hi → marked marks' (b p) ≡ true

pub spread-0 : {size m : ℕ} {R : ℕ → Type 0} {marks : List Bool} {queue : List ℕ} {tail : ℕ} (b : ℕ → ℕ) (lo : ℕ) → Queue size m R marks queue tail
    → Spread size m R b lo lo marks queue tail marks queue tail
spread-0 {marks} {queue} {tail} b lo Q = record { queued = Q; kept = keep marks queue tail; done = λ p l k. absurd (omega arith) }

pub spread-more : {size m : ℕ} {R : ℕ → Type 0} {b : ℕ → ℕ} {lo p : ℕ} {marks marks' marks'' : List Bool} {queue queue' queue'' : List ℕ}
    {tail tail' tail'' : ℕ}
    → Spread size m R b lo p marks queue tail marks' queue' tail' → Pushed size m R marks' queue' tail' marks'' queue'' tail'' (b p)
    → Spread size m R b lo (p + 1) marks queue tail marks'' queue'' tail''
spread-more {p = p} S P = record {
  queued = P.queued;
  kept = record {
    more = omega (arith, S.kept.more, P.kept.more);
    entry = λ i l. P.kept.entry i (omega (arith, S.kept.more)) ∙ S.kept.entry i l;
    still = λ g e. P.kept.still g (S.kept.still g e);
  };
  done = λ q l h. elim (ℕ_discrete q p) [ yes z ↦ rw z P.is | no d ↦ P.kept.still _ (S.done q l (omega arith)) ];
}

-- ---- the loop

-- the arcs from the queue's first `head` entries lead to marked ones
pub record Flood (size n m : ℕ) (a b : ℕ → ℕ) (marks : List Bool) (queue : List ℕ) (head tail : ℕ) : Type 0 where
  pub queued : Queue size m (Reached n a b) marks queue tail
  pub upto : head ≤ tail
  pub start : marked marks 0 ≡ true
  pub done : (i p : ℕ) → i < head → p < n → a p ≡ entry_at queue i → marked marks (b p) ≡ true

pub queue_0 : {size m : ℕ} (R : ℕ → Type 0) {marks : List Bool} {queue : List ℕ} → m ≤ size → Unmarked size marks queue → Queue size m R marks queue 0
unfolding count_below
queue_0 {size} {m} R f b = rw (b.unmarked, b.empty) (record {
  marks_size = length-replicate {A = Bool} size false;
  queue_size = length-replicate {A = ℕ} size 0;
  fits = f;
  count = (gap (marked (replicate size false)) 0 m (omega arith) (λ g k l. rw blank)).count;
  below = λ i l. absurd (omega arith);
  reach = λ i l. absurd (omega arith);
  listed = λ g l e. absurd (true≢false (sym e ∙ rw blank));
})

pub flood_0 : {size n m : ℕ} {a b : ℕ → ℕ} {marks marks' : List Bool} {queue queue' : List ℕ} {tail tail' : ℕ}
    → Pushed size m (Reached n a b) marks queue tail marks' queue' tail' 0 → Flood size n m a b marks' queue' 0 tail'
flood_0 P = record { queued = P.queued; upto = omega arith; start = P.is; done = λ i p l. absurd (omega arith) }

pub flood_more : {size n m : ℕ} {a b : ℕ → ℕ} {lo hi : ℕ} {marks marks' : List Bool} {queue queue' : List ℕ} {head tail tail' : ℕ}
    → Flood size n m a b marks queue head tail → head < tail → ((p : ℕ) → p < n → a p ≡ entry_at queue head → (lo ≤ p) × (p < hi))
    → Spread size m (Reached n a b) b lo hi marks queue tail marks' queue' tail' → Flood size n m a b marks' queue' (head + 1) tail'
flood_more {head = head} F l range S = record {
  queued = S.queued;
  upto = omega (arith, S.kept.more);
  start = S.kept.still 0 F.start;
  done = λ i p h k e. elim (ℕ_discrete i head) [
    | yes z ↦ let r = range p k (e ∙ S.kept.entry i (omega arith) ∙ rw z) in S.done p r.0 r.1
    | no d ↦ S.kept.still _ (F.done i p (omega arith) k (e ∙ S.kept.entry i (omega arith)))
  ];
}

-- the marked ones are those that are reached
pub record Flooded (n m : ℕ) (a b : ℕ → ℕ) (marks : List Bool) : Type 0 where
  pub only : (g : ℕ) → g < m → marked marks g ≡ true → Reached n a b g
  pub all : {g : ℕ} → Reached n a b g → marked marks g ≡ true

pub flood_end : {size n m : ℕ} {a b : ℕ → ℕ} {marks : List Bool} {queue : List ℕ} {head tail : ℕ}
    → Flood size n m a b marks queue head tail → tail ≤ head → 0 < m → ((p : ℕ) → p < n → b p < m) → Flooded n m a b marks
flood_end {n = n} {m = m} {a = a} {b = b} {marks = marks} F l z ends = record {
  only = λ g k e. let (i, h, q) = F.queued.listed g k e in rw q at (F.queued.reach i h);
  all = λ r. (all r).1;
}
  where
    all : {g : ℕ} → Reached n a b g → (g < m) × (marked marks g ≡ true)
    all first = (z, F.start)
    all (arc {p} r k) = let (h, e) = all r in let (i, s, q) = F.queued.listed (a p) h e in (ends p k, F.done i p (omega arith) k (sym q))

-- ---- the arcs told in another way

pub record SameArcs (n : ℕ) (a b a' b' : ℕ → ℕ) : Type 0 where
  pub starts : (p : ℕ) → p < n → a p ≡ a' p
  pub ends : (p : ℕ) → p < n → b p ≡ b' p

arcs_back : {n : ℕ} {a b a' b' : ℕ → ℕ} → SameArcs n a b a' b' → SameArcs n a' b' a b
arcs_back S = record { starts = λ p l. sym (S.starts p l); ends = λ p l. sym (S.ends p l) }

reached_same : {n : ℕ} {a b a' b' : ℕ → ℕ} {g : ℕ} → SameArcs n a b a' b' → Reached n a b g → Reached n a' b' g
reached_same S first = first
reached_same S (arc {p} r l) = rw (S.ends p l) (arc (rw (S.starts p l) at (reached_same S r)) l)

pub flooded-same : {n m : ℕ} {a b a' b' : ℕ → ℕ} {marks : List Bool} → SameArcs n a b a' b' → Flooded n m a b marks → Flooded n m a' b' marks
flooded-same S F = record { only = λ g k e. reached_same S (F.only g k e); all = λ r. F.all (reached_same (arcs_back S) r) }
