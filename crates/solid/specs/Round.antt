-- A ring closes: at a vertex each facet is reached from each. Assumes nothing.
use Rattle.std.proofs.Common.{subst}
use Rattle.solid.specs.Reach.{Around, here, hop}
use Rattle.solid.specs.Surface.{Surface, follow}

module _ {P F : Type 0} (M : Surface P F) {v : P} where
  open M use {Corner, Edge, starts, prev, across, ring}

  join : {f g h : F} → Around Edge v f g → Around Edge v g h → Around Edge v f h
  join a here = a
  join a (hop b o i) = hop (join a b) o i

  -- a way on from f, less its first hop, which leads to k
  onward : {f g h k : F} {q r : P} → Edge f v q → Edge k q v → Around Edge v f g → Edge g v r → Edge h r v → Around Edge v k h
  onward {k} o i here o' i' = subst (λ h. Around Edge v k h) (follow M o i o' i') here
  onward o i (hop a o'' i'') o' i' = hop (onward o i a o'' i'') o' i'

  -- a start f with u → v, and the facet e before it
  module _ {f e : F} {u : P} (into : Edge f u v) (out : Edge e v u) (loop : Around Edge v f e) where
    turned : {g h : F} {q : P} → Edge g v q → Edge h q v → Around Edge v g e → Around Edge v h e
    turned o i here = subst (λ h. Around Edge v h e) (follow M out into o i) loop
    turned o i (hop a o' i') = onward o i a o' i'

    returns : {g : F} → Around Edge v f g → Around Edge v g e
    returns here = loop
    returns (hop a o i) = turned o i (returns a)

  pub round : {f g : F} → Corner f v → Corner g v → Around Edge v f g
  round cf cg =
      let R = ring cf in
      let (u, into) = prev R.at_start in
      let (e, out) = across into in
      join (hop (returns into out (R.reached (starts out)) (R.reached cf)) out into) (R.reached cg)
