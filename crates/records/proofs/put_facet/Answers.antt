-- The number of corners and then the corners are stored; together they are the record. Assumes nothing.
use Rattle.std.proofs.Common.{rules, length}
use Rattle.tape.specs.Records.{length-packed}
use Rattle.records.specs.Records.{framed-all}
use Rattle.records.proofs.put_facet.Goals as goal

pub returns : goal.returns
returns c =
    let cs = c.args.corners.now in
    (framed-all c.args.rest.now (length cs) cs c.put_body.ensures (rw length-packed (search rules))).is
