-- `flat::side_at` meets its contract. Assumes nothing.
use Rattle.flat.specs.Facet.{first_three}
use Rattle.flat.proofs.side_at.Goals as goal

pub side_of-requires : goal.side_of-requires
side_of-requires c =
    let (f, v) = c.requires in
    record { three = first_three f; vertex = v }
