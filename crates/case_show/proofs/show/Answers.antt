-- A number of 64 bits has room.
use Rattle.std.proofs.Common.{◌≤◌, length, arith, sym, length-take-le}
use mir.Facts.{to_z-of_z}
use Rattle.decimal.specs.Shown.{few_bytes}
use Rattle.case_show.proofs.show.Goals as goal

pub slice_bounds-show_text-end : goal.slice_bounds-show_text-end
slice_bounds-show_text-end g c =
    let ends = rw (to_z-of_z c.ranges.number) at c.put_number-end.ensures.ends in
    let few = few_bytes c.args.number c.ranges.number in
    let within : c.put_number-end.result ≤ length c.put_number-end.new.buf = omega (arith, ends, c.put_number-end.auto.buf, few) in
    sym (length-take-le _ _ within)
