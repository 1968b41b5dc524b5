-- "Answer numbers": the number that the sheet gives each refusal. Assumes nothing.
use Rattle.std.specs.Prelude.{ℕ}
use Rattle.refusals.specs.declared.Refusal.{Refusal}
use Rattle.refusals.specs.declared.Refusal.TheVariants.{Size, Range, Index, Repeat, Unused, Pair, Ring, Apart, Bent, Turn, Reflex, Outside}
use Rattle.refusals.specs.declared.Refusal.TheVariants.{Start, Direction, Trail, Room, Kind, Order, Limit, Cut, Count, Tail, Buffer}
use Rattle.refusals.specs.declared.Refusal.TheVariants.{Few, Left, Wound}

abbrev pub number_of : Refusal → ℕ
number_of Size = 1
number_of Range = 2
number_of Index = 3
number_of Repeat = 4
number_of Unused = 5
number_of Pair = 6
number_of Ring = 7
number_of Apart = 8
number_of Bent = 9
number_of Turn = 10
number_of Reflex = 11
number_of Outside = 12
number_of Start = 13
number_of Direction = 14
number_of Trail = 15
number_of Room = 16
number_of Kind = 17
number_of Order = 18
number_of Limit = 19
number_of Cut = 20
number_of Count = 21
number_of Tail = 22
number_of Buffer = 23
number_of Few = 24
number_of Left = 25
number_of Wound = 26
