-- The chain of v holds each place that leaves v exactly once, and no other. Assumes nothing.
use Rattle.std.specs.Prelude.{◌≡◌, true, cond, List, eqb, length}
use Rattle.std.proofs.Common.{sym, ◌∙◌, true≢false, eq-eqb, ne_eqb}
use Prim.Native.Nat.{ℕ, zero, suc, ◌-◌, ◌≤◌, ◌<◌}
use native.Mathlib.Omega.{arith}
use Rattle.std.proofs.Math.Decide.{ℕ_discrete, dec_lt}
use Rattle.tables.specs.Tables.{most_vertices, from}
use Rattle.index.specs.Entries.{head_at, back_at}
use Rattle.index.specs.declared.Edge.{Edge}
use Rattle.edges.specs.Chains.{leaves, Chains, On, on_0, on_more, falls, gap_0, gap_more}

-- the link that follows link q: 0 follows 0
abbrev pub onward : List Edge → ℕ → ℕ
onward edges q = cond (eqb q 0) 0 (back_at edges (q - 1))

-- link k of the chain of v, from 0
unfoldable pub link_at : List Edge → List ℕ → ℕ → ℕ → ℕ
link_at edges heads v zero = head_at heads v
link_at edges heads v (suc k) = onward edges (link_at edges heads v k)

past_end : (edges : List Edge) (q : ℕ) → q ≡ 0 → onward edges q ≡ 0
past_end edges q e = rw (eq-eqb q 0 e)

module _ {corners : List ℕ} {edges : List Edge} {heads : List ℕ} (C : Chains corners edges heads (length corners)) {v : ℕ}
    (l : v < most_vertices) where
  L : ℕ → ℕ
  L k = link_at edges heads v k

  next : (k : ℕ) → 0 < L k → L (suc k) ≡ back_at edges (L k - 1)
  unfolding L link_at
  next k h = rw (ne_eqb (L k) 0 (λ z. omega arith))

  before : (k : ℕ) → 0 < L (suc k) → 0 < L k
  unfolding L link_at
  before k h = elim (ℕ_discrete (L k) 0) [ yes z ↦ absurd (omega (arith, past_end edges (L k) z)) | no d ↦ omega arith ]

  on : (k : ℕ) → 0 < L k → On corners v (L k)
  unfolding L link_at
  on zero h = on_0 C l
  on (suc k) h = rw (next k (before k h)) (on_more C (before k h) (on k (before k h)))

  later : (j k : ℕ) → j < k → 0 < L k → L k < L j
  later j zero b h = absurd (omega arith)
  later j (suc k) b h =
      let s = falls C (before k h) (on k (before k h)) in
      let e = next k (before k h) in
      elim (ℕ_discrete j k) [ yes z ↦ rw z (omega arith) | no d ↦ omega (arith, later j k (omega arith) (before k h)) ]

  -- a place that leaves v and was not passed is met
  meet : (p k fuel : ℕ) → leaves corners v p ≡ true → p < L k → L k ≤ fuel → (j : ℕ) × (L j ≡ suc p)
  meet p k zero e b f = absurd (omega arith)
  meet p k (suc fuel) e b f = elim (ℕ_discrete (L k) (suc p)) [
    | yes z ↦ (k, z)
    | no d ↦
        let h : 0 < L k = omega arith in
        let s = next k h in
        let o = on k h in
        elim (dec_lt p (L (suc k))) [
          | yes m ↦ meet p (suc k) fuel e m (omega (arith, falls C h o))
          | no m ↦ absurd (true≢false (sym e ∙ gap_more C h o p (omega arith) (omega arith)))
        ]
  ]

  -- ---- the chain of v: only places that leave v, each of them, and none twice

  pub only_leaving : (k : ℕ) {p : ℕ} → link_at edges heads v k ≡ suc p → (p < length corners) × (from corners p ≡ v)
  unfolding L
  only_leaving k {p} e =
      let o = on k (omega arith) in
      let z : link_at edges heads v k - 1 ≡ p = omega arith in
      (omega (arith, o.upto), rw z at (o.leads (omega arith)))

  pub each-leaving : {p : ℕ} → p < length corners → from corners p ≡ v → (k : ℕ) × (link_at edges heads v k ≡ suc p)
  unfolding L link_at
  each-leaving {p} b e = elim (dec_lt p (L 0)) [
    | yes m ↦ meet p 0 (length corners) (eq-eqb _ _ e) m (on_0 C l).upto
    | no m ↦ absurd (true≢false (sym (eq-eqb _ _ e) ∙ gap_0 C l p (omega arith) b))
  ]

  pub none_twice : (j k : ℕ) {p : ℕ} → link_at edges heads v j ≡ suc p → link_at edges heads v k ≡ suc p → j ≡ k
  unfolding L
  none_twice j k x y = elim (dec_lt j k) [
    | yes b ↦ absurd (omega (arith, later j k b (omega arith)))
    | no b ↦ elim (dec_lt k j) [ yes c ↦ absurd (omega (arith, later k j c (omega arith))) | no c ↦ omega arith ]
  ]
