-- What a report of a file says (01: "A file report gives 32 pairs of doublewords, pending then enable, and the number of pending ones, identity 0 included").
use Rattle.std.specs.Prelude.{ℕ, zero, suc, ◌+◌, ◌*◌, List, [], ◌∷◌, ◌++◌, replicate}
use Rattle.std.specs.Int.Count.{ones}
use Rattle.memory.specs.Window.{doubleword}
use Rattle.interrupt_file.specs.declared.Pair.{Pair}
use Rattle.interrupt_file.specs.declared.Report.{Report}

-- of a file's bytes
module _ (bytes : List ℕ) where
  abbrev pub pair_of : ℕ → Pair
  pair_of k = record { pending = doubleword bytes (16 * k); enable = doubleword bytes (16 * k + 8) }

  -- its first k pairs, and the ones in their pending doublewords
  unfoldable pub pairs_of : ℕ → List Pair
  pairs_of zero = []
  pairs_of (suc k) = pairs_of k ++ (pair_of k ∷ [])

  unfoldable pub count_of : ℕ → ℕ
  count_of zero = 0
  count_of (suc k) = count_of k + ones (doubleword bytes (16 * k))

  abbrev pub file_report : Report
  file_report = record { refusal = 0; count = count_of 32; pairs = pairs_of 32 }

-- "Its refusal gives zero pairs and count 0 beside the number"
abbrev pub refused_report : ℕ → Report
refused_report number = record { refusal = number; count = 0; pairs = replicate 32 (record { pending = 0; enable = 0 }) }
