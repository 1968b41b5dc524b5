-- `tables::facet` meets its contract. Assumes nothing.
use Rattle.std.proofs.Common.{lt-ltb, le-ltb, refl, sym, ◌∙◌, arith}
use Rattle.tables.specs.Size.{sized}
use Rattle.tables.proofs.facet.Goals as goal

pub returns-then-size : goal.returns-then-size
returns-then-size c = rw (← c.size.ensures, c.if-size.true) (record { at = refl; is = refl })

pub overflow_sub-begins : goal.overflow_sub-begins
overflow_sub-begins c =
    let z = sized _ _ _ (sym c.size.ensures ∙ c.if-size.false) in
    omega (arith, z.laid.some)

pub part-requires : goal.part-requires
part-requires c =
    ((sized _ _ _ (sym c.size.ensures ∙ c.if-size.false)).laid, c.if-f-begins.true)

pub returns-then-f-begins : goal.returns-then-f-begins
returns-then-f-begins c =
    rw (← c.size.ensures, c.if-size.false, lt-ltb _ _ c.if-f-begins.true) c.part.ensures

pub returns : goal.returns
returns c =
    rw (← c.size.ensures, c.if-size.false, le-ltb _ _ c.if-f-begins.false) (record { at = refl; is = refl })
