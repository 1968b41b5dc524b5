-- `tables_out::put_facets` meets its contract. Assumes nothing.
use Rattle.tables_out.specs.Records.{FacetTurn}
use Rattle.tables_out.proofs.put_facets.Given as goal

abbrev pub invariant-loop-f : goal.invariant-loop-f
invariant-loop-f l = FacetTurn l.corners l.begins l.initial.buffer l.buffer l.at l.f
