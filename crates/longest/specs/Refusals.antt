-- A refusal's number is 17 to 22, and its offset is no farther than the input's end. Assumes nothing.
use Rattle.std.specs.Prelude.{◌≡◌, Bool, true, false, cond, List, T, ltb, leb, eqb, Ok, Err}
use Rattle.std.proofs.Math.Path.{refl}
use Prim.Native.Nat.{ℕ, zero, suc, ◌+◌, ◌-◌, ◌*◌, ◌≤◌, ◌<◌}
use Rattle.std.proofs.Common.{arith}
use Rattle.std.proofs.Math.Dec.{lit≤}
use Rattle.std.proofs.Math.ListN.{length, get_or}
use borrow.Author.Tests.{ltb-true}
use Rattle.tables.specs.Tables.{most_vertices, most_facets, most_corners, most_sides}
use Rattle.tape.specs.Little.{unsigned_at}
use Rattle.tape.specs.Reading.{Next, look_at, after, run, read_tape}
use Rattle.tape.specs.Look.{tells}
use Rattle.tape.specs.declared.Record.TheVariants.{Point, Facet, End}
use Rattle.reading.specs.Answer.{refused_at}

-- the number of one of the reader's refusals, and an offset in the input or at its end
pub record Refusal (s : List ℕ) (number offset : ℕ) : Type 0 where
  pub least : 17 ≤ number
  pub most : number ≤ 22
  pub inside : offset ≤ length s

abbrev Fine : List ℕ → Next → Type 0
Fine s (Ok stands) = Unit {0}
Fine s (Err refused) = Refusal s refused.number refused.offset

-- a look by a test, case by case
by : (P : Next → Type 0) (t : Bool) {x y : Next} → (t ≡ true → P x) → (t ≡ false → P y) → P (cond t x y)
by P true a b = a refl
by P false a b = b refl

module _ (s : List ℕ) (at v f c : ℕ) (h : at ≤ length s) where
  bad : {number : ℕ} → T (leb 17 number) → T (leb number 22) → {A : Type 0} → A → Refusal s number at
  bad a b _ = record { least = lit≤ a; most = lit≤ b; inside = h }

  fine : Fine s (look_at s at v f c)
  unfolding look_at
  fine =
      let P = Fine s in
      let k = get_or s at 0 in
      let l = length s - at in
      by P (leb (length s) at) (bad tt tt) (λ _.
      by P (eqb k 0)
      (λ _.
      by P (ltb l 5) (bad tt tt) (λ _.
      by P (eqb (unsigned_at s (at + 1)) v) (λ _.
      by P (eqb (unsigned_at s (at + 3)) f) (λ _.
      by P (ltb 5 l) (λ t. record { least = lit≤ tt; most = lit≤ tt; inside = omega (arith, ltb-true 5 l t) }) (λ _. tt))
      (bad tt tt))
      (bad tt tt)))
      (λ _.
      by P (eqb k 1)
      (λ _.
      by P (ltb 0 f) (bad tt tt) (λ _.
      by P (leb most_vertices v) (bad tt tt) (λ _.
      by P (ltb l 7) (bad tt tt) (λ _. tt))))
      (λ _.
      by P (eqb k 2) (bad tt tt) (λ _.
      by P (ltb most_sides k) (bad tt tt) (λ _.
      by P (leb most_facets f) (bad tt tt) (λ _.
      by P (ltb most_corners (c + k)) (bad tt tt) (λ _.
      by P (ltb l (1 + 2 * k)) (bad tt tt) (λ _. tt))))))))

module _ (s : List ℕ) {number offset : ℕ} where
  refuses : (k at v f c : ℕ)
      → ((at v f c : ℕ) → at ≤ length s → length s < k + at → run (look_at s) k at v f c ≡ Err (refused_at number offset) → Refusal s number offset)
      → length s < suc k + at → (r : Next) → look_at s at v f c ≡ r → Fine s r → after (run (look_at s) k) at v f c r ≡ Err (refused_at number offset)
      → Refusal s number offset
  refuses k at v f c more l (Ok Point) e p q = more (at + 7) (v + 1) f c (tells s at v f c e).whole (omega arith) q
  refuses k at v f c more l (Ok (Facet n)) e p q = more (at + (1 + 2 * n)) v (f + 1) (c + n) (tells s at v f c e).whole (omega arith) q
  refuses k at v f c more l (Ok End) e p q = let z : ◌≡◌ {A = ℕ} 0 1 = cc in absurd (omega arith)
  refuses k at v f c more l (Err refused) e p q = let a : refused ≡ refused_at number offset = cc in rw a at p

  run-refuses : (k at v f c : ℕ) → at ≤ length s → length s < k + at → run (look_at s) k at v f c ≡ Err (refused_at number offset) → Refusal s number offset
  unfolding run
  run-refuses zero at v f c h l q = absurd (omega arith)
  run-refuses (suc k) at v f c h l q = refuses k at v f c (run-refuses k) l (look_at s at v f c) refl (fine s at v f c h) q

  pub read-refusal : read_tape s ≡ Err (refused_at number offset) → Refusal s number offset
  unfolding read_tape
  read-refusal q = run-refuses (suc (length s)) 0 0 0 0 (omega arith) (omega arith) q
