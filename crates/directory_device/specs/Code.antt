-- Nothing here has to be believed: bounds that a caller's sums need, by cases.
use Rattle.std.specs.Prelude.{◌%◌, ◌<◌, ◌^◌, ◌≡◌, Err, Ok}
use Rattle.paging_entry.specs.Purpose.{Translation}

-- where a context may lie
abbrev pub Placed : Translation → Type 0
Placed (Ok a) = (a < 2 ^ 60) × (a % 64 ≡ 0)
Placed (Err f) = Unit {0}
