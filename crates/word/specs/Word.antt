-- A word as a set of numbers, and a number made of its bits.
use Rattle.std.specs.Prelude.{ℕ, zero, suc, ◌+◌, ◌*◌, ◌/◌, ◌%◌, ◌^◌, Bool, true, false, ◌&&◌, eqb, ltb}
use Rattle.std.specs.Int.Bits.{bit_or}
use Rattle.memory.specs.Bits.{bit, without}
use Rattle.memory.specs.Choice.{pick}

-- number i is in x where bit i of x is 1
unfoldable pub contains : ℕ → ℕ → Bool
contains x i = bit x i

abbrev pub digit : Bool → ℕ
digit true = 1
digit false = 0

-- the number whose n low bits are f 0, f 1 ..
unfoldable pub word_of : ℕ → (ℕ → Bool) → ℕ
word_of zero f = 0
word_of (suc n) f = word_of n (λ j. f (suc j)) * 2 + digit (f 0)

-- the least of the n numbers from k on that f has, or k + n
unfoldable pub lowest : ℕ → ℕ → (ℕ → Bool) → ℕ
lowest zero k f = k
lowest (suc n) k f = pick (f k) k (lowest n (suc k) f)

-- the sources: "sources 1 to 63" (02)
abbrev pub is_source : ℕ → Bool
is_source i = ltb 0 i && ltb i 64

-- register k of an array of masks has sources 32 k to 32 k + 31, source i at bit i mod 32 (002 4.1.5.5): k = 1 where `high`
abbrev pub half : Bool → (ℕ → Bool) → ℕ
half high f = word_of 32 (λ j. f (pick high (32 + j) j))

-- source i is one of those that a value written to such a register names
unfoldable pub chosen : Bool → ℕ → ℕ → Bool
chosen high v i = eqb (i / 32) (digit high) && bit v (i % 32)

-- the source that a number names
unfoldable pub only : ℕ → ℕ → Bool
only n i = eqb i n

-- how the code changes a word: one bit as told, and all bits of a mask as told
abbrev pub put_of : ℕ → ℕ → Bool → ℕ
put_of x n on = pick on (bit_or x (1 * 2 ^ n % 2 ^ 64)) (without x (1 * 2 ^ n % 2 ^ 64))

abbrev pub set_of : ℕ → ℕ → Bool → ℕ
set_of x mask on = pick on (bit_or x mask) (without x mask)
