-- One bit of a byte: what it is, and the byte with it set or clear.
use Rattle.std.specs.Prelude.{ℕ, ◌+◌, ◌-◌, ◌*◌, ◌/◌, ◌%◌, ◌^◌}

-- bit k of v, 0 or 1
unfoldable pub bit_at : ℕ → ℕ → ℕ
bit_at k v = v / 2 ^ k % 2

-- v with bit k at 1: v itself where it is 1
unfoldable pub with_bit : ℕ → ℕ → ℕ
unfolding bit_at
with_bit k v = v + (1 - bit_at k v) * 2 ^ k

-- v with bit k at 0: v itself where it is 0
unfoldable pub without_bit : ℕ → ℕ → ℕ
unfolding bit_at
without_bit k v = v - bit_at k v * 2 ^ k
