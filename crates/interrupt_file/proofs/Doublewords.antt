-- An identity's pending bit as bit n mod 64 of its doubleword, as the papers have it. Assumes nothing.
use Prim.Native.Nat.{ℕ, zero, suc, ◌+◌, ◌-◌, ◌*◌, ◌/◌, ◌%◌, ◌^◌, ◌≤◌, ◌<◌}
use mathlib.Core.List.{List}
use mathlib.Core.Path.{◌≡◌, sym, ap, ◌∙◌}
use native.Mathlib.Nat.{add-zero, zero-add, add_comm, mul_comm, mul_right_comm, pow-suc}
use native.Mathlib.Omega.{arith}
use lib.ListN.{get_or}
use lib.Pow.{shr-shr, high}
use Rattle.memory.specs.Window.{doubleword}
use Rattle.interrupt_file.specs.Bit.{bit_at}
use Rattle.interrupt_file.specs.File.{place_of, pending_of}
use Rattle.interrupt_file.proofs.Bits.{bit-zero, bit-suc}

-- the bits of a number that is written as v below r, with w bits for v
bit-low : (w k v r : ℕ) → k < w → bit_at k (v + 2 ^ w * r) ≡ bit_at k v
bit-low zero k v r h = absurd (omega arith)
bit-low (suc w) zero v r h =
    let t : 2 ^ suc w * r ≡ 2 ^ w * r * 2 = rw pow-suc (mul_right_comm (2 ^ w) 2 r) in simp (bit-zero, t) (omega arith)
bit-low (suc w) (suc k) v r h =
    let t : 2 ^ suc w * r ≡ 2 ^ w * r * 2 = rw pow-suc (mul_right_comm (2 ^ w) 2 r) in
    let d : (v + 2 ^ suc w * r) / 2 ≡ v / 2 + 2 ^ w * r = rw t (omega arith) in
    simp (bit-suc, d) (bit-low w k (v / 2) r (omega arith))

bit_high : (w k v r : ℕ) → v < 2 ^ w → bit_at (w + k) (v + 2 ^ w * r) ≡ bit_at k r
unfolding bit_at
bit_high w k v r h =
    let e : v + 2 ^ w * r ≡ r * 2 ^ w + v = add_comm v (2 ^ w * r) ∙ ap (λ t. t + v) (mul_comm (2 ^ w) r) in
    rw (e, ← shr-shr (r * 2 ^ w + v) w k, high r w h)

-- a number of w bytes, the lowest first
unfoldable bytes_of : ℕ → (ℕ → ℕ) → ℕ
bytes_of zero f = 0
bytes_of (suc w) f = f 0 + 256 * bytes_of w (λ j. f (suc j))

bit-bytes : (w j k : ℕ) (f : ℕ → ℕ) → ((i : ℕ) → f i < 256) → j < w → k < 8 → bit_at (8 * j + k) (bytes_of w f) ≡ bit_at k (f j)
unfolding bytes_of
bit-bytes zero j k f h l m = absurd (omega arith)
bit-bytes (suc w) zero k f h l m = rw zero-add (bit-low 8 k (f 0) _ m)
bit-bytes (suc w) (suc j) k f h l m =
    let e : 8 * suc j + k ≡ 8 + (8 * j + k) = omega arith in
    rw e (bit_high 8 (8 * j + k) (f 0) _ (h 0) ∙ bit-bytes w j k (λ i. f (suc i)) (λ i. h (suc i)) (omega arith) m)

doubleword-bytes : (xs : List ℕ) (i : ℕ) → doubleword xs i ≡ bytes_of 8 (λ j. get_or xs (i + j) 0)
unfolding bytes_of
doubleword-bytes xs i = simp add-zero

-- "Identity n is bit n mod 64 of the doubleword at file + 16 x (n div 64)"
pub pending-bit : (start : ℕ) (xs : List ℕ) (file n : ℕ) → ((i : ℕ) → get_or xs i 0 < 256) → start ≤ file
    → pending_of start xs file n ≡ doubleword xs (file + 16 * (n / 64) - start) / 2 ^ (n % 64) % 2
unfolding pending_of bit_at
pending-bit start xs file n h s =
    let at = file + 16 * (n / 64) - start in
    let p : place_of file n - start ≡ at + n % 64 / 8 = omega arith in
    let q : n % 64 ≡ 8 * (n % 64 / 8) + n % 8 = omega arith in
    let b = bit-bytes 8 (n % 64 / 8) (n % 8) (λ j. get_or xs (at + j) 0) (λ i. h (at + i)) (omega arith) (omega arith) in
    ap (λ i. bit_at (n % 8) (get_or xs i 0)) p ∙ sym b ∙ ap (bit_at (8 * (n % 64 / 8) + n % 8)) (sym (doubleword-bytes xs at)) ∙ ap (λ k. bit_at k (doubleword xs at)) (sym q)
