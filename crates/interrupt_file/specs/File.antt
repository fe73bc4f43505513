-- A memory-resident interrupt file (000, 8.1.3.1): 512 bytes, 32 pairs of doublewords, pending then enable.
use Prim.Native.Nat.{ℕ, zero, suc, ◌+◌, ◌-◌, ◌*◌, ◌/◌, ◌%◌}
use Rattle.std.specs.Prelude.{Bool, ◌&&◌, List, get_or}
use Rattle.std.proofs.Math.Dec.{eqb}
use Rattle.std.proofs.Math.ListN.{set}
use Rattle.memory.specs.Choice.{pick}
use Rattle.memory.specs.Window.{inside}
use Rattle.word.specs.Word.{contains, word_of}
use Rattle.interrupt_file.specs.Bit.{bit_at, with_bit, without_bit}

-- 01: "A file is 512 bytes of the window at an address that is a multiple of 512"
unfoldable pub is_file : ℕ → ℕ → ℕ → Bool
is_file start len file = eqb (file % 512) 0 && inside start len file 512

-- "Identity n is bit n mod 64 of the doubleword at file + 16 x (n div 64)", little-endian: bit n mod 8 of its byte (n mod 64) div 8
abbrev pub byte_of : ℕ → ℕ
byte_of n = 16 * (n / 64) + n % 64 / 8

-- the address of the byte that holds an identity's pending bit
abbrev pub place_of : ℕ → ℕ → ℕ
place_of file n = file + byte_of n

-- in a window of bytes from `start` on
module _ (start : ℕ) (bytes : List ℕ) (file n : ℕ) where
  -- the pending bit: "An interrupt is pending when its bit is 1"
  unfoldable pub pending_of : ℕ
  unfolding bit_at
  pending_of = bit_at (n % 8) (get_or bytes (place_of file n - start) 0)

  -- the bytes after a store, and after "A take clears the same bit"
  unfoldable pub after_store : List ℕ
  unfolding with_bit
  after_store = set bytes (place_of file n - start) (with_bit (n % 8) (get_or bytes (place_of file n - start) 0))

  unfoldable pub after_take : List ℕ
  unfolding without_bit
  after_take = set bytes (place_of file n - start) (without_bit (n % 8) (get_or bytes (place_of file n - start) 0))

-- a take of many gets "a doubleword number (0 to 31) and a mask" (02, Req 12): bit k stands for the identity 64 d + k
module _ (start : ℕ) (bytes : List ℕ) (file d mask : ℕ) where
  -- "the ones that were set": "a bit is answered exactly when it is in the mask and its interrupt waits"
  unfoldable pub taken_of : ℕ
  unfolding contains word_of pending_of
  taken_of = word_of 64 (λ k. contains mask k && eqb (pending_of start bytes file (64 * d + k)) 1)

  -- "clears those pending bits": the takes of the first k identities that are in the mask, one after another
  unfoldable pub taken_to : ℕ → List ℕ
  unfolding contains after_take
  taken_to zero = bytes
  taken_to (suc k) = pick (contains mask k) (after_take start (taken_to k) file (64 * d + k)) (taken_to k)

  abbrev pub after_take_many : List ℕ
  after_take_many = taken_to 64
