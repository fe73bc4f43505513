-- Bits and fields of a doubleword, in the documents' notation: `bits e 53 10` is e[53:10].
use Rattle.std.specs.Prelude.{ℕ, ◌+◌, ◌-◌, ◌/◌, ◌%◌, ◌^◌, Bool, not, ◌==◌, bit_and}

-- bits high to low of e, as a number
abbrev pub bits : ℕ → ℕ → ℕ → ℕ
bits e high low = e / 2 ^ low % 2 ^ (high + 1 - low)

-- bit k of e is 1
abbrev pub bit : ℕ → ℕ → Bool
bit e k = e / 2 ^ k % 2 == 1

-- some bit from high to low is 1: how a reserved field is misused
abbrev pub any_set : ℕ → ℕ → ℕ → Bool
any_set e high low = not (bits e high low == 0)

-- x & ~m: the bits of x where m has a 0
abbrev pub without : ℕ → ℕ → ℕ
without x m = x - bit_and x m
