-- A report's turn: one more pair, and its count. Assumes nothing.
use Prim.Native.Nat.{ℕ, ◌+◌, ◌*◌, ◌≤◌, ◌<◌}
use mathlib.Core.List.{List}
use mathlib.Core.Path.{◌≡◌, refl, sym, ◌∙◌}
use native.Mathlib.Numerals.{add-one}
use native.Mathlib.Omega.{arith}
use lib.Count.{ones}
use lib.ListN.{length, take, set, length-set}
use lib.Seq.{take-suc-set, take_all}
use Rattle.memory.specs.Window.{doubleword}
use Rattle.interrupt_file.specs.declared.Pair.{Pair}
use Rattle.interrupt_file.specs.declared.Report.{Report}
use Rattle.interrupt_file.specs.Report.{pairs_of, count_of, file_report}

-- the first k pairs are read, and their ones counted
pub record Read (bytes : List ℕ) (k count : ℕ) (pairs : List Pair) : Type 0 where
  pub turns : k ≤ 32
  pub long : length pairs ≡ 32
  pub reads : take k pairs ≡ pairs_of bytes k
  pub counts : count ≡ count_of bytes k
  pub small : count ≤ 64 * k

abbrev report_of_lem : ℕ → ℕ → List Pair → Report
report_of_lem n count pairs = record { refusal = n; count = count; pairs = pairs }

module _ (bytes : List ℕ) where
  pub none_read : (pairs : List Pair) → length pairs ≡ 32 → Read bytes 0 0 pairs
  unfolding pairs_of count_of
  none_read pairs l = record { turns = omega arith; long = l; reads = refl; counts = refl; small = omega arith }

  module _ {k count : ℕ} {pairs : List Pair} (r : Read bytes k count pairs) where
    pub one_more : (p e more : ℕ) → k < 32 → p ≡ doubleword bytes (16 * k) → e ≡ doubleword bytes (16 * k + 8) → more ≡ count + ones p → more ≤ count + 64
        → Read bytes (k + 1) more (set pairs k (record { pending = p; enable = e }))
    unfolding pairs_of count_of
    one_more p e more h hp he hc hl =
        let l : k < length pairs = omega (arith, r.long) in
        record {
          turns = omega arith;
          long = length-set pairs k _ ∙ r.long;
          reads = rw (add-one, take-suc-set pairs k _ l, r.reads, hp, he);
          counts = rw (add-one, hc, r.counts, hp);
          small = omega (arith, r.small);
        }

    pub all_read : 32 ≤ k → report_of_lem 0 count pairs ≡ file_report bytes
    all_read h =
        let z : k ≡ 32 = omega (arith, r.turns) in
        let q : pairs ≡ pairs_of bytes 32 = sym (take_all 32 pairs (omega (arith, r.long))) ∙ (rw z at r.reads) in
        rw (r.counts, z, q)
