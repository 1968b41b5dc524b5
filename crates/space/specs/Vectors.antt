-- Vectors of whole numbers, their operations shut: outside, all that is used of them are the laws below. Assumes nothing.
use Rattle.std.specs.Prelude.{◌≡◌, ℤ, pos, negsuc, ◌+ℤ◌, ◌≤ℤ◌, ◌<ℤ◌}
use Rattle.whole.specs.Solver.{num, neg, ◌⊕◌, ◌≐◌}
use Rattle.whole.specs.Order.{◌≼◌, ◌≺◌, ◌≃◌, ◌⇒◌, ◌since◌, hyp, by, sq, ◌⊞◌, ◌⊠◌, never, not_le, not_lt}
use Rattle.whole.specs.Formula.{Ops, ints, exprs}
use Rattle.space.specs.Vec.{Vec, sub, dot, cross, det as det³, solve³, prove³}

infixl 75 ◌-ᵛ◌
infix 70 ◌·◌
unfoldable pub ◌-ᵛ◌ : Vec ℤ → Vec ℤ → Vec ℤ
◌-ᵛ◌ p q = sub ints p q

unfoldable pub ◌·◌ : Vec ℤ → Vec ℤ → ℤ
◌·◌ p q = dot ints p q

-- p · (q × r)
unfoldable pub det : Vec ℤ → Vec ℤ → Vec ℤ → ℤ
det p q r = det³ ints p q r

-- ---- a product that is positive has no factor 0

norm-pos : (n m : Vec ℤ) → pos 0 <ℤ dot ints n m → pos 0 <ℤ dot ints n n
norm-pos n m h =
    not_le (λ k. never (prove³ 2 (λ n m. let o = num (pos 0) in let c = cross exprs n m in
    o ≺ dot exprs n m ⇒ λ h. dot exprs n n ≼ o ⇒ λ k.
    num (pos 1) ≼ o since hyp h ⊠ hyp h ⊞ hyp h ⊞ hyp h ⊞ hyp k ⊠ (sq m.x ⊞ sq m.y ⊞ sq m.z) ⊞ sq c.x ⊞ sq c.y ⊞ sq c.z)
    tt n m h k))

pub normal_pos : (n a b : Vec ℤ) → pos 0 <ℤ det n a b → pos 0 <ℤ n · n
unfolding det ◌·◌
normal_pos n a b h = norm-pos n (cross ints a b) h

-- a turn leads away from its corner
pub not_0 : (n a r : Vec ℤ) → r.x ≡ pos 0 → r.y ≡ pos 0 → r.z ≡ pos 0 → pos 0 <ℤ det n a r → ⊥
unfolding det
not_0 n a r hx hy hz h = never (prove³ 3 (λ n a r. let o = num (pos 0) in let m = cross exprs n a in
    r.x ≃ o ⇒ λ hx. r.y ≃ o ⇒ λ hy. r.z ≃ o ⇒ λ hz. o ≺ det³ exprs n a r ⇒ λ h.
    num (pos 1) ≼ o since hyp h ⊞ by m.x hx ⊞ by m.y hy ⊞ by m.z hz) tt n a r hx hy hz h)

-- ---- orientation

-- c left of a → b is a left of b → c
pub rotate : (n a b c : Vec ℤ) → det n (b -ᵛ a) (c -ᵛ a) ≡ det n (c -ᵛ b) (a -ᵛ b)
unfolding det ◌-ᵛ◌
rotate = solve³ 4 (λ n a b c. det³ exprs n (sub exprs b a) (sub exprs c a) ≐ det³ exprs n (sub exprs c b) (sub exprs a b)) tt

pub swap-≤ : (a b c : Vec ℤ) → det a b c ≤ℤ pos 0 → pos 0 ≤ℤ det b a c
unfolding det
swap-≤ = prove³ 3 (λ a b c. det³ exprs a b c ≼ num (pos 0) ⇒ λ h. num (pos 0) ≼ det³ exprs b a c since hyp h) tt

pub swap-< : (a b c : Vec ℤ) → pos 0 <ℤ det c b a → det a b c <ℤ pos 0
unfolding det
swap-< = prove³ 3 (λ a b c. num (pos 0) ≺ det³ exprs c b a ⇒ λ h. det³ exprs a b c ≺ num (pos 0) since hyp h) tt

-- m × U is 0 at U, and negative at what has U on its left
pub aside : (m U x : Vec ℤ) → pos 0 <ℤ det m x U → cross ints m U · x <ℤ pos 0
unfolding det ◌·◌
aside = prove³ 3 (λ m U x. num (pos 0) ≺ det³ exprs m x U ⇒ λ h. dot exprs (cross exprs m U) x ≺ num (pos 0) since hyp h) tt

pub aside_0 : (m U : Vec ℤ) → cross ints m U · U ≡ pos 0
unfolding ◌·◌
aside_0 = solve³ 2 (λ m U. dot exprs (cross exprs m U) U ≐ num (pos 0)) tt

-- ---- Cramer's rule, as it is used: x lies in the cone of e, b and a, and d is positive at none of these three

pub cone_step : (a b e x d : Vec ℤ) → det a b e <ℤ pos 0 → det a b x ≤ℤ pos 0 → pos 0 ≤ℤ det e b x → det e a x ≤ℤ pos 0
    → d · e ≤ℤ pos 0 → d · b ≤ℤ pos 0 → d · a ≤ℤ pos 0 → d · x ≤ℤ pos 0
unfolding det ◌·◌
cone_step a b e x d h i j k de db da =
    not_lt (λ p. never (prove³ 5 (λ a b e x d. let o = num (pos 0) in
    det³ exprs a b e ≺ o ⇒ λ h. det³ exprs a b x ≼ o ⇒ λ i. o ≼ det³ exprs e b x ⇒ λ j. det³ exprs e a x ≼ o ⇒ λ k.
    dot exprs d e ≼ o ⇒ λ de. dot exprs d b ≼ o ⇒ λ db. dot exprs d a ≼ o ⇒ λ da. o ≺ dot exprs d x ⇒ λ p.
    num (pos 1) ≼ o since hyp h ⊠ hyp p ⊞ hyp h ⊞ hyp p ⊞ hyp i ⊠ hyp de ⊞ hyp k ⊠ hyp db ⊞ hyp j ⊠ hyp da)
    tt a b e x d h i j k de db da p))

-- ---- heights

pub fall : (d p q : Vec ℤ) → d · p ≤ℤ d · q → d · (p -ᵛ q) ≤ℤ pos 0
unfolding ◌·◌ ◌-ᵛ◌
fall = prove³ 3 (λ d p q. dot exprs d p ≼ dot exprs d q ⇒ λ h. dot exprs d (sub exprs p q) ≼ num (pos 0) since hyp h) tt

pub unfall : (d p q : Vec ℤ) → d · (p -ᵛ q) ≤ℤ pos 0 → d · p ≤ℤ d · q
unfolding ◌·◌ ◌-ᵛ◌
unfall = prove³ 3 (λ d p q. dot exprs d (sub exprs p q) ≼ num (pos 0) ⇒ λ h. dot exprs d p ≼ dot exprs d q since hyp h) tt

pub drop : (d p q : Vec ℤ) → d · p <ℤ d · q → d · (p -ᵛ q) <ℤ pos 0
unfolding ◌·◌ ◌-ᵛ◌
drop = prove³ 3 (λ d p q. dot exprs d p ≺ dot exprs d q ⇒ λ h. dot exprs d (sub exprs p q) ≺ num (pos 0) since hyp h) tt

pub climb : (d p q : Vec ℤ) → d · p <ℤ d · q → pos 0 <ℤ d · (q -ᵛ p)
unfolding ◌·◌ ◌-ᵛ◌
climb = prove³ 3 (λ d p q. dot exprs d p ≺ dot exprs d q ⇒ λ h. num (pos 0) ≺ dot exprs d (sub exprs q p) since hyp h) tt

pub even : (d p q : Vec ℤ) → d · p ≡ d · q → d · (q -ᵛ p) ≡ pos 0
unfolding ◌·◌ ◌-ᵛ◌
even = prove³ 3 (λ d p q. dot exprs d p ≃ dot exprs d q ⇒ λ h. dot exprs d (sub exprs q p) ≃ num (pos 0) since by (num (negsuc 0)) h) tt

-- seen from a point u of a plane through c
pub level : (n c u w : Vec ℤ) → n · (u -ᵛ c) ≡ pos 0 → n · (w -ᵛ c) ≡ pos 0 → n · (w -ᵛ u) ≡ pos 0
unfolding ◌·◌ ◌-ᵛ◌
level = prove³ 4 (λ n c u w. let o = num (pos 0) in
    dot exprs n (sub exprs u c) ≃ o ⇒ λ h. dot exprs n (sub exprs w c) ≃ o ⇒ λ k.
    dot exprs n (sub exprs w u) ≃ o since by (num (pos 1)) k ⊞ by (neg (num (pos 1))) h) tt

pub lower : (n c u w : Vec ℤ) → n · (u -ᵛ c) ≡ pos 0 → n · (w -ᵛ c) <ℤ pos 0 → n · (w -ᵛ u) <ℤ pos 0
unfolding ◌·◌ ◌-ᵛ◌
lower = prove³ 4 (λ n c u w. let o = num (pos 0) in
    dot exprs n (sub exprs u c) ≃ o ⇒ λ h. dot exprs n (sub exprs w c) ≺ o ⇒ λ k.
    dot exprs n (sub exprs w u) ≺ o since hyp k ⊞ by (neg (num (pos 1))) h) tt

-- z is no lower than l, and l no lower than a plane through c and y
pub not_lower : (n c y l z : Vec ℤ) → n · (y -ᵛ c) ≡ pos 0 → pos 0 ≤ℤ n · (l -ᵛ c) → n · l ≤ℤ n · z → pos 0 ≤ℤ n · (z -ᵛ y)
unfolding ◌·◌ ◌-ᵛ◌
not_lower = prove³ 5 (λ n c y l z. let o = num (pos 0) in
    dot exprs n (sub exprs y c) ≃ o ⇒ λ h. o ≼ dot exprs n (sub exprs l c) ⇒ λ i. dot exprs n l ≼ dot exprs n z ⇒ λ j.
    o ≼ dot exprs n (sub exprs z y) since hyp i ⊞ hyp j ⊞ hyp h) tt

-- along a sum of three directions
abbrev sumᵒ {ℓ} : (O : Ops {ℓ}) → (a b c : Vec O.C) → Vec O.C
sumᵒ O a b c =
    record { x = O.plus (O.plus a.x b.x) c.x; y = O.plus (O.plus a.y b.y) c.y; z = O.plus (O.plus a.z b.z) c.z }

unfoldable pub sum : Vec ℤ → Vec ℤ → Vec ℤ → Vec ℤ
sum a b c = sumᵒ ints a b c

pub rise_sum : (a b c w v : Vec ℤ) → sum a b c · v ≤ℤ sum a b c · w → pos 0 ≤ℤ (a · (w -ᵛ v) +ℤ b · (w -ᵛ v) +ℤ c · (w -ᵛ v))
unfolding sum ◌·◌ ◌-ᵛ◌
rise_sum = prove³ 5 (λ a b c w v. let r = sub exprs w v in dot exprs (sumᵒ exprs a b c) v ≼ dot exprs (sumᵒ exprs a b c) w ⇒ λ h.
    num (pos 0) ≼ dot exprs a r ⊕ dot exprs b r ⊕ dot exprs c r since hyp h) tt
