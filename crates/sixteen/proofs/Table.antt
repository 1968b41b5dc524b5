-- Each row of the table of sixteen, from the one statement over them all.
use Rattle.std.specs.Prelude.{◌≡◌}
use mathlib.Core.List.{List, map, Memᴰ, head-eq_of_cons-eq, tail-eq_of_cons-eq}
use Rattle.sixteen.specs.Table.{Reply, answer, Case, table, all_sixteen}

alike : (f g : Case → Reply) {r : Case} {rows : List Case} → map f rows ≡ map g rows → Memᴰ r rows → f r ≡ g r
alike f g e (Memᴰ.head p) = rw p (head-eq_of_cons-eq e)
alike f g e (Memᴰ.tail m) = alike f g (tail-eq_of_cons-eq e) m

-- so every row of the table has the sheet's answer
pub each : {r : Case} → Memᴰ r table → answer r.question ≡ r.reply
each = alike (λ r. answer r.question) (λ r. r.reply) all_sixteen
