-- The words that a caller lends as a domain. Any 87 words stand for a table.
use Rattle.std.specs.Prelude.{ℕ, ◌+◌, ◌%◌, Bool, List, eqb, ltb, get_or, set, replicate}
use Rattle.memory.specs.Choice.{pick}
use Rattle.hart.specs.declared.Hart.{Hart}
use Rattle.hart.specs.Hart.{resting}
use Rattle.hart.specs.Kept.{record_of}
use Rattle.source.specs.declared.Delivery.{Delivery}
use Rattle.source.specs.declared.Delivery.TheVariants.{Direct, Message}
use Rattle.source.specs.Table.{Table}
use Rattle.sources.specs.declared.Sources.{Sources}
use Rattle.sources.specs.Sources.{Common, table_with}

-- word 0 has the domain's enable in its lowest bit; words 1 to 6 have the sources' bits, source i at bit i; word 7 has the delivery mode in its lowest bit, 1 for
-- direct; word 7 + n has the target of source n in its low half; word 71 + h has the record of hart h in its low half
unfoldable pub enable_in : List ℕ → Bool
enable_in ws = eqb (get_or ws 0 0 % 2) 1

unfoldable pub sources_in : List ℕ → Sources
sources_in ws = record { wired = get_or ws 1 0; level = get_or ws 2 0; low = get_or ws 3 0; wires = get_or ws 4 0; pending = get_or ws 5 0; enable = get_or ws 6 0 }

unfoldable pub delivery_in : List ℕ → Delivery
delivery_in ws = pick (eqb (get_or ws 7 0 % 2) 1) Direct Message

unfoldable pub target_in : List ℕ → ℕ → ℕ
target_in ws n = get_or ws (7 + n) 0 % 0x1_0000_0000

unfoldable pub record_in : List ℕ → ℕ → Hart
record_in ws h = record_of (get_or ws (71 + h) 0 % 0x1_0000_0000)

abbrev pub common_in : List ℕ → Common
common_in ws = record { delivery = delivery_in ws; enable = enable_in ws; hart = λ h. pick (ltb h 16) (record_in ws h) resting }

unfoldable pub table_in : List ℕ → Table
table_in ws = table_with (common_in ws) (sources_in ws) (target_in ws)

-- n words as a caller makes them: all zero, and the delivery mode in word 7
abbrev pub mode_word : Delivery → ℕ
mode_word Direct = 1
mode_word Message = 0

unfoldable pub made_of : Delivery → ℕ → List ℕ
made_of d n = set (replicate n 0) 7 (mode_word d)

-- with other sources' bits
unfoldable pub with_sources : List ℕ → Sources → List ℕ
with_sources ws s = set (set (set (set (set (set ws 1 s.wired) 2 s.level) 3 s.low) 4 s.wires) 5 s.pending) 6 s.enable
