-- "The neighbours of a vertex are those joined to it by an edge": under PAIR, the ends of the edges that leave it. Assumes nothing.
use Rattle.std.specs.Prelude.{◌≡◌, List, ℕ, suc, ◌<◌, length}
use Rattle.std.proofs.Common.{◌∙◌}
use Rattle.tables.specs.Tables.{most_vertices, from, to}
use Rattle.index.specs.declared.Edge.{Edge}
use Rattle.edges.specs.Chains.{Chains}
use Rattle.shape.specs.Listed.{link_at, only_leaving, each-leaving}
use Rattle.pair.specs.Pair.{Paired}
use Rattle.pair.specs.Across.{across}

-- an edge leads from v to u, or from u to v
pub data Neighbour (corners begins : List ℕ) (v u : ℕ) : Type 0 where
  leads : (p : ℕ) → p < length corners → from corners p ≡ v → to corners begins p ≡ u → Neighbour corners begins v u
  arrives : (p : ℕ) → p < length corners → from corners p ≡ u → to corners begins p ≡ v → Neighbour corners begins v u

pub leaving_edge : {corners begins : List ℕ} {v u : ℕ} → Paired corners begins → Neighbour corners begins v u
    → (p : ℕ) × (p < length corners) × (from corners p ≡ v) × (to corners begins p ≡ u)
leaving_edge P (leads p h s e) = (p, h, s, e)
leaving_edge P (arrives p h s e) = let r = across P h in (_, r.below, r.starts ∙ e, r.ends ∙ s)

-- so the chain of v has them all, and no other
module _ {corners begins : List ℕ} {edges : List Edge} {heads : List ℕ} (C : Chains corners edges heads (length corners)) {v u : ℕ}
    (l : v < most_vertices) where
  pub on_chain : Paired corners begins → Neighbour corners begins v u → (k p : ℕ) × (link_at edges heads v k ≡ suc p) × (to corners begins p ≡ u)
  on_chain P n =
      let (p, h, s, e) = leaving_edge P n in
      let (k, z) = each-leaving C l h s in
      (k, p, z, e)

  pub chain_on : (k p : ℕ) → link_at edges heads v k ≡ suc p → to corners begins p ≡ u → Neighbour corners begins v u
  chain_on k p z e = let (h, s) = only_leaving C l k z in leads p h s e
