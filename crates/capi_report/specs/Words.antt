-- A report in the words of a buffer that C lends (D27).
use Rattle.std.specs.Prelude.{ℕ, zero, suc, ◌+◌, ◌*◌, List, set, get_or}
use Rattle.memory.specs.Window.{Lent}
use Rattle.interrupt_file.specs.declared.Pair.{Pair}
use Rattle.interrupt_file.specs.declared.Report.{Report}
use Rattle.iommu_files.specs.Files.{report_of}
use Rattle.iommu.specs.Operations.{starts_of}

-- the words from the third on: the pending and the enable doubleword of each of the first k pairs
unfoldable pub with_pairs : List ℕ → (ℕ → Pair) → ℕ → List ℕ
with_pairs out pair zero = out
with_pairs out pair (suc k) = set (set (with_pairs out pair k) (2 + 2 * k) (pair k).pending) (3 + 2 * k) (pair k).enable

abbrev pub no_pair : Pair
no_pair = record { pending = 0; enable = 0 }

-- a report in 66 words: refusal, count, pairs
abbrev pub with_report : List ℕ → Report → List ℕ
with_report out r = set (with_pairs (set out 0 r.refusal) (λ k. get_or r.pairs k no_pair) 32) 1 r.count

-- the report of a file of what is lent
abbrev pub report_in : Lent → ℕ → Report
report_in l file = report_of (starts_of l) l.first.bytes l.second.bytes file
