-- Nothing here has to be believed: what is taken of the numbers that are left.
use Rattle.std.specs.Prelude.{ℕ, ◌≡◌, ◌<◌, ◌≤◌, ◌-◌, bit_and, Option, Some, None}
use Rattle.word.specs.Word.{contains, lowest}

-- the lowest of the numbers from 1 on, or none
abbrev pub Takes : ℕ → Option ℕ → ℕ → Type 0
Takes left None rest = 64 ≤ lowest 63 1 (contains left)
Takes left (Some i) rest = (i ≡ lowest 63 1 (contains left)) × (i < 64) × (rest ≡ bit_and left (left - 1))
