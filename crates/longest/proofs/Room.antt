-- The room of a tape in bytes. Assumes nothing.
use Rattle.std.proofs.Common.{◌≡◌, refl}
use Rattle.longest.specs.Longest.{tape_room}

pub tape-room : tape_room ≡ 21510
tape-room = refl
