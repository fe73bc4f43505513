-- Lists whose elements are bytes, as those of a lent window are, stay so. Assumes nothing.
use Prim.Native.Nat.{ℕ, zero, suc, ◌+◌, ◌-◌, ◌*◌, ◌%◌, ◌^◌, ◌<◌}
use mathlib.Core.List.{List, [], ◌∷◌}
use native.Mathlib.Omega.{arith}
use lib.Bits.{or_lt}
use lib.Pow.{pow-lt}
use lib.ListN.{get_or, set}
use Rattle.memory.specs.Window.{doubleword}
use Rattle.interrupt_file.specs.Bit.{with_bit, without_bit}
use Rattle.interrupt_file.specs.File.{place_of, after_store, after_take}
use Rattle.interrupt_file.proofs.Bits.{or_pow}

-- every element is a byte
abbrev pub Bytes : List ℕ → Type 0
Bytes xs = (i : ℕ) → get_or xs i 0 < 256

set_lt : (k v : ℕ) → k < 8 → v < 256 → with_bit k v < 256
set_lt k v l h = rw (← or_pow k v) (or_lt 8 v (2 ^ k) h (pow-lt l))

cleared_lt : (k v : ℕ) → v < 256 → without_bit k v < 256
unfolding without_bit
cleared_lt k v h = omega arith

set-bytes : (xs : List ℕ) (i v : ℕ) → v < 256 → Bytes xs → Bytes (set xs i v)
set-bytes [] i v l h j = h j
set-bytes (x ∷ xs) zero v l h zero = l
set-bytes (x ∷ xs) zero v l h (suc j) = h (suc j)
set-bytes (x ∷ xs) (suc i) v l h zero = h 0
set-bytes (x ∷ xs) (suc i) v l h (suc j) = set-bytes xs i v l (λ k. h (suc k)) j

module _ (start : ℕ) where
  pub store_bytes : (bytes : List ℕ) (file n : ℕ) → Bytes bytes → Bytes (after_store start bytes file n)
  unfolding after_store
  store_bytes bytes file n h = set-bytes bytes _ _ (set_lt (n % 8) _ (omega arith) (h (place_of file n - start))) h

  pub take-bytes : (bytes : List ℕ) (file n : ℕ) → Bytes bytes → Bytes (after_take start bytes file n)
  unfolding after_take
  take-bytes bytes file n h = set-bytes bytes _ _ (cleared_lt (n % 8) _ (h (place_of file n - start))) h

below : (b r k : ℕ) → b < 256 → r < k → b + 256 * r < 256 * k
below b r k p q = omega arith

pub doubleword_lt : (bytes : List ℕ) → Bytes bytes → (i : ℕ) → doubleword bytes i < 2 ^ 64
doubleword_lt bytes byte i =
    below _ _ (2 ^ 56) (byte i) (below _ _ (2 ^ 48) (byte (i + 1)) (below _ _ (2 ^ 40) (byte (i + 2)) (below _ _ (2 ^ 32) (byte (i + 3))
    (below _ _ (2 ^ 24) (byte (i + 4)) (below _ _ (2 ^ 16) (byte (i + 5)) (below _ _ (2 ^ 8) (byte (i + 6)) (byte (i + 7))))))))
