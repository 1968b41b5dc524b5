-- The kind and two numbers are stored; together they are the record. Assumes nothing.
use Rattle.records.specs.Records.{framed-two}
use Rattle.records.proofs.put_counts.Goals as goal

pub returns : goal.returns
returns c =
    let a = c.args in
    (framed-two a.rest.now a.kind a.v a.f c.put_unsigned.ensures c.put_unsigned-2.ensures c.requires).is
