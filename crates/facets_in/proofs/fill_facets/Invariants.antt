-- `facets_in::fill_facets` meets its contract: facet after facet, by the tray. Assumes nothing.
use Rattle.facets_in.specs.Filling.{Filling}
use Rattle.facets_in.proofs.fill_facets.Given as goal

abbrev pub invariant-loop-f : goal.invariant-loop-f
invariant-loop-f l = Filling l.tape l.from l.n l.initial.corners l.initial.begins l.corners l.begins l.tray l.at l.c l.f
