-- Laws of one bit of a number: what it is in the number with a bit set or clear, and the machine's `|` of it. Assumes nothing.
use Prim.Native.Nat.{ℕ, zero, suc, ◌+◌, ◌-◌, ◌*◌, ◌/◌, ◌%◌, ◌^◌, ◌≤◌, ◌<◌}
use mathlib.Core.List.{List}
use mathlib.Core.Path.{◌≡◌, refl, ap}
use native.Mathlib.Nat.{pow-suc, mul_assoc}
use native.Mathlib.Numerals.{one-add}
use native.Mathlib.Omega.{arith}
use lib.Bits.{bit_or, or_step, or_zero_r}
use lib.ListN.{get_or, set}
use lib.Pow.{shr-shr, pow-lt}
use Rattle.interrupt_file.specs.Bit.{bit_at, with_bit, without_bit}

-- the lowest bit, and the others, which are those of the half
pub bit-zero : (v : ℕ) → bit_at 0 v ≡ v % 2
unfolding bit_at
bit-zero v = omega arith

pub bit-suc : (k v : ℕ) → bit_at (suc k) v ≡ bit_at k (v / 2)
unfolding bit_at
bit-suc k v = rw (shr-shr v 1 k, one-add)

pub bit_lt : (k v : ℕ) → bit_at k v < 2
unfolding bit_at
bit_lt k v = omega arith

bit_le : (k v : ℕ) → bit_at k v * 2 ^ k ≤ v
bit_le zero v = rw bit-zero (omega arith)
bit_le (suc k) v =
    rw (bit-suc, pow-suc) (omega (arith, bit_le k (v / 2), mul_assoc (bit_at k (v / 2)) (2 ^ k) 2))

-- a bit that is 0 is clear
pub low-kept : (k v : ℕ) → bit_at k v ≡ 0 → without_bit k v ≡ v
unfolding without_bit
low-kept k v e = rw e (omega arith)

set-zero : (v : ℕ) → with_bit 0 v ≡ v / 2 * 2 + 1
unfolding with_bit bit_at
set-zero v = omega arith

set-suc : (k v : ℕ) → with_bit (suc k) v ≡ with_bit k (v / 2) * 2 + v % 2
unfolding with_bit
set-suc k v = rw (bit-suc, pow-suc) (omega (arith, mul_assoc (1 - bit_at k (v / 2)) (2 ^ k) 2))

cleared-zero : (v : ℕ) → without_bit 0 v ≡ v / 2 * 2
unfolding without_bit bit_at
cleared-zero v = omega arith

cleared-suc : (k v : ℕ) → without_bit (suc k) v ≡ without_bit k (v / 2) * 2 + v % 2
unfolding without_bit
cleared-suc k v = rw (bit-suc, pow-suc) (omega (arith, bit_le k (v / 2), mul_assoc (bit_at k (v / 2)) (2 ^ k) 2))

-- the half of a number that is written as one digit below another
half : (x v : ℕ) → (x * 2 + v % 2) / 2 ≡ x
half x v = omega arith

pub bit-set : (k v : ℕ) → bit_at k (with_bit k v) ≡ 1
bit-set zero v = rw (bit-zero, set-zero) (omega arith)
bit-set (suc k) v = rw (bit-suc, set-suc, half) (bit-set k (v / 2))

pub bit-set-other : (j k v : ℕ) → (j ≡ k → ⊥) → bit_at j (with_bit k v) ≡ bit_at j v
bit-set-other zero zero v h = absurd (h refl)
bit-set-other zero (suc k) v h = simp (bit-zero, set-suc) (omega arith)
bit-set-other (suc j) zero v h = simp (bit-suc, set-zero) (ap (bit_at j) (omega arith))
bit-set-other (suc j) (suc k) v h =
    simp (bit-suc, set-suc, half) (bit-set-other j k (v / 2) (λ e. h (ap suc e)))

pub bit-cleared : (k v : ℕ) → bit_at k (without_bit k v) ≡ 0
bit-cleared zero v = rw (bit-zero, cleared-zero) (omega arith)
bit-cleared (suc k) v = rw (bit-suc, cleared-suc, half) (bit-cleared k (v / 2))

pub bit-cleared-other : (j k v : ℕ) → (j ≡ k → ⊥) → bit_at j (without_bit k v) ≡ bit_at j v
bit-cleared-other zero zero v h = absurd (h refl)
bit-cleared-other zero (suc k) v h = simp (bit-zero, cleared-suc) (omega arith)
bit-cleared-other (suc j) zero v h = simp (bit-suc, cleared-zero) (ap (bit_at j) (omega arith))
bit-cleared-other (suc j) (suc k) v h =
    simp (bit-suc, cleared-suc, half) (bit-cleared-other j k (v / 2) (λ e. h (ap suc e)))

-- as the machine has it: one bit of a number joined
pub or_pow : (k v : ℕ) → bit_or v (2 ^ k) ≡ with_bit k v
or_pow zero v = rw (or_step v 1, or_zero_r, set-zero) (omega arith)
or_pow (suc k) v =
    let h : 2 ^ suc k / 2 ≡ 2 ^ k = rw pow-suc (omega arith) in
    let e : 2 ^ suc k % 2 ≡ 0 = rw pow-suc (omega arith) in
    rw (or_step v (2 ^ suc k), h, e, or_pow k (v / 2), set-suc) (omega arith)

-- of a byte of a list
pub power_lt : (k : ℕ) → 2 ^ (k % 8) < 256
power_lt k = pow-lt {i = k % 8} {j = 8} (omega arith)

module _ (xs : List ℕ) (i k m : ℕ) where
  pub byte-set : m ≡ 2 ^ k → set xs i (bit_or (get_or xs i 0) m) ≡ set xs i (with_bit k (get_or xs i 0))
  byte-set h = rw (h, or_pow)

pub ruleset bit_ways = (power_lt, byte-set)
