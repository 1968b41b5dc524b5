-- Where the deciding pass stands: it knows the numbers, and what the records from here on come to. Assumes nothing.
use Rattle.std.specs.Prelude.{◌≡◌, refl, List, Ok, Err}
use Prim.Native.Nat.{ℕ, zero, suc, ◌+◌, ◌*◌, ◌≤◌, ◌<◌}
use Rattle.std.proofs.Common.{arith}
use Rattle.std.proofs.Math.ListN.{length}
use Rattle.tables.specs.Tables.{most_vertices, most_facets, most_corners}
use Rattle.tape.specs.Reading.{Next, look_at, after, run, read_tape}
use Rattle.tape.specs.Whole.{Looks}
use Rattle.tape.specs.declared.Record.TheVariants.{Point, Facet, End}
use Rattle.reading.specs.declared.Refused.{Refused}
use Rattle.reading.specs.Answer.{Reading, counted}

pub record Stands (s : List ℕ) (look : ℕ → ℕ → ℕ → ℕ → Next) (o : Reading) (at v f c : ℕ) : Type 0 where
  pub left : ℕ
  pub inside : at ≤ length s
  pub ahead : length s < left + at
  pub few : v ≤ most_vertices
  pub facets_few : f ≤ most_facets
  pub short : c ≤ most_corners
  pub same : run look left at v f c ≡ o

pub stands_0 : (s : List ℕ) → Stands s (look_at s) (read_tape s) 0 0 0 0
unfolding read_tape
stands_0 s = record {
  left = suc (length s);
  inside = omega arith;
  ahead = omega arith;
  few = omega arith;
  facets_few = omega arith;
  short = omega arith;
  same = refl;
}

module _ {s : List ℕ} {look : ℕ → ℕ → ℕ → ℕ → Next} (L : Looks s look) {o : Reading} {at v f c : ℕ} (st : Stands s look o at v f c) where
  -- the next record, with one look less left
  record Rest (r : Next) : Type 0 where
    rest : ℕ
    ahead : length s < suc rest + at
    same : after (run look rest) at v f c r ≡ o

  next : {r : Next} → look at v f c ≡ r → Rest r
  unfolding run
  next {r} e = go st.left st.ahead st.same
    where
      go : (k : ℕ) → length s < k + at → run look k at v f c ≡ o → Rest r
      go zero h q = absurd (omega (arith, st.inside))
      go (suc k) h q = record { rest = k; ahead = h; same = rw e at q }

  pub stands_point : look at v f c ≡ Ok Point → Stands s look o (at + 7) (v + 1) f c
  stands_point e =
      let n = next e in
      let k = L.point at v f c e in
      record {
        left = n.rest;
        inside = k.whole;
        ahead = omega (arith, n.ahead);
        few = omega (arith, k.few);
        facets_few = st.facets_few;
        short = st.short;
        same = n.same;
      }

  pub stands_facet : {m : ℕ} → look at v f c ≡ Ok (Facet m) → Stands s look o (at + (1 + 2 * m)) v (f + 1) (c + m)
  stands_facet {m} e =
      let n = next e in
      let k = L.facet at v f c m e in
      record {
        left = n.rest;
        inside = k.whole;
        ahead = omega (arith, n.ahead);
        few = st.few;
        facets_few = omega (arith, k.few);
        short = k.short;
        same = n.same;
      }

  pub stands_end : look at v f c ≡ Ok End → Ok (counted v f c) ≡ o
  stands_end e = (next e).same

  pub stands_bad : {refused : Refused} → look at v f c ≡ Err refused → Err refused ≡ o
  stands_bad e = (next e).same
