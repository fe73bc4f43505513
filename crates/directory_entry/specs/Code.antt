-- Nothing here has to be believed: bounds that a caller's sums need, by cases.
use Rattle.std.specs.Prelude.{ℕ, ◌<◌, Err, Ok}
use Rattle.paging_entry.specs.Purpose.{Translation}

-- the address that was found, if any, is below n
abbrev pub Below : ℕ → Translation → Type 0
Below n (Ok a) = a < n
Below n (Err f) = Unit {0}
