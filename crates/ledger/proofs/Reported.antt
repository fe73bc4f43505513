-- What a report counts is the sum of the pending bits of the file's 2,048 identities. Assumes nothing.
use Prim.Native.Nat.{ℕ, zero, suc, ◌+◌, ◌-◌, ◌*◌, ◌/◌, ◌%◌, ◌^◌, ◌≤◌, ◌<◌}
use mathlib.Core.Path.{◌≡◌, refl, sym, ap, ap₂, ◌∙◌}
use mathlib.Core.List.{List}
use native.Mathlib.Omega.{arith}
use lib.Count.{ones}
use lib.ListN.{take, drop}
use Rattle.memory.specs.Window.{doubleword}
use Rattle.memory.proofs.Loads.{part-word}
use Rattle.interrupt_file.specs.Bit.{bit_at}
use Rattle.interrupt_file.specs.File.{pending_of}
use Rattle.interrupt_file.specs.Report.{count_of}
use Rattle.interrupt_file.proofs.Bytes.{Bytes, doubleword_lt}
use Rattle.interrupt_file.proofs.Doublewords.{pending-bit}
use Rattle.ledger.specs.Sums.{sum_to, of_file}
use Rattle.ledger.proofs.SumLaws.{to_ext, to-split, ones-sum}

count-sum : (bytes : List ℕ) (k : ℕ) → count_of bytes k ≡ sum_to k (λ i. ones (doubleword bytes (16 * i)))
unfolding count_of sum_to
count-sum bytes zero = refl
count-sum bytes (suc k) = omega (arith, count-sum bytes k)

module _ (bytes : List ℕ) (byte : Bytes bytes) where
  module _ (start file : ℕ) (s : start ≤ file) where
    bit_is : (i r : ℕ) → r < 64 → pending_of start bytes file (i * 64 + r) ≡ bit_at r (doubleword bytes (file - start + 16 * i))
    unfolding bit_at
    bit_is i r l =
        pending-bit start bytes file (i * 64 + r) byte s ∙ ap₂ (λ (a k : ℕ). doubleword bytes a / 2 ^ k % 2) (place file start i r s l) (low i r l)
      where
        place : (file start i r : ℕ) → start ≤ file → r < 64 → file + 16 * ((i * 64 + r) / 64) - start ≡ file - start + 16 * i
        place file start i r s l = omega arith

        low : (i r : ℕ) → r < 64 → (i * 64 + r) % 64 ≡ r
        low i r l = omega arith

    -- "the number of pending ones, identity 0 included", of a file's own bytes
    pub pending-counted : of_file (pending_of start bytes file) ≡ count_of (take 512 (drop (file - start) bytes)) 32
    unfolding of_file
    pending-counted =
        to-split 32 64 (pending_of start bytes file)
        ∙ to_ext 32 _ _ (λ i p. to_ext 64 _ _ (λ r q. bit_is i r q) ∙ sym (ones-sum 64 _ (doubleword_lt bytes byte (file - start + 16 * i)))
        ∙ ap ones (sym (part-word bytes (file - start) 512 (16 * i) (omega arith))))
        ∙ sym (count-sum (take 512 (drop (file - start) bytes)) 32)
