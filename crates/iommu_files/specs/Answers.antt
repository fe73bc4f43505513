-- 01's number and values for each case of an answer (01, "What a request holds"). A fault's stage stands in its FaultInfo.
use Rattle.std.specs.Prelude.{ℕ, ◌≡◌}
use Rattle.refusal.specs.declared.Refusal.{Refusal}
use Rattle.refusal.specs.Refusal.{number_of}
use Rattle.iommu_files.specs.declared.Answer.{Answer}
use Rattle.iommu_files.specs.declared.Answer.TheVariants.{Translated, Redirected, Stored, Discarded, Fault, Refused, Taken}
use Rattle.iommu_files.specs.declared.Numbers.{Numbers}

abbrev pub numbers : ℕ → ℕ → ℕ → ℕ → Numbers
numbers kind a b c = record { kind = kind; first = a; second = b; third = c }

abbrev pub numbers_of : Answer → Numbers
numbers_of (Translated a) = numbers 0 a 0 0
numbers_of (Redirected a) = numbers 1 a 0 0
numbers_of (Stored d) = numbers 2 d.file d.notice d.number
numbers_of Discarded = numbers 3 0 0 0
numbers_of (Fault f) = numbers 4 f.cause 0 0
numbers_of (Refused r) = numbers 5 r 0 0
numbers_of (Taken w) = numbers 6 w 0 0

-- the answer by which a call is refused: its number
abbrev pub refused : Refusal → Answer
refused r = Refused (number_of r)

-- what a routine promises of its answer r: it is a, and has the number and the values that this paper gives a
pub record Answered (r a : Answer) : Type 0 where
  pub same : r ≡ a
  pub numbered : numbers_of r ≡ numbers_of a
