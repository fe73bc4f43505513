-- The take of a pending interrupt or of many, and the report of a file, in whichever window holds it.
use Rattle.std.specs.Prelude.{ℕ, Bool, List, length}
use Rattle.memory.specs.Choice.{pick}
use Rattle.memory.specs.declared.Starts.{Starts}
use Rattle.memory.specs.Window.{Lent, lent, part_of}
use Rattle.refusal.specs.Refusal.{number_of}
use Rattle.refusal.specs.Checks.{unless_refused}
use Rattle.interrupt_file.specs.File.{is_file, pending_of, after_take, taken_of, after_take_many}
use Rattle.interrupt_file.specs.Report.{file_report, refused_report}
use Rattle.interrupt_file.specs.declared.Report.{Report}
use Rattle.iommu_files.specs.declared.Answer.{Answer}
use Rattle.iommu_files.specs.declared.Answer.TheVariants.{Taken}
use Rattle.iommu_files.specs.Answers.{refused}
use Rattle.iommu_refusals.specs.Refusals.{take_refusal, take_many_refusal, report_refusal}

-- the windows' starts and bytes
module _ (starts : Starts) (first second : List ℕ) where
  -- whether a file that lies in either window lies in the first
  abbrev pub in_first : ℕ → Bool
  in_first file = is_file starts.first (length first) file

  -- what is lent, with one window's bytes changed: that of the window in which the file lies
  abbrev pub changed_at : ℕ → (ℕ → List ℕ → List ℕ) → Lent
  changed_at file change =
      lent starts (pick (in_first file) (change starts.first first) first) (pick (in_first file) second (change starts.second second))

  abbrev pub pending_at : ℕ → ℕ → ℕ
  pending_at file n = pick (in_first file) (pending_of starts.first first file n) (pending_of starts.second second file n)

  -- of many: the answered bits (02, Req 12)
  abbrev pub answered_at : ℕ → ℕ → ℕ → ℕ
  answered_at file d mask =
      pick (in_first file) (taken_of starts.first first file d mask) (taken_of starts.second second file d mask)

  -- "A take clears the same bit"
  abbrev pub taken_at : ℕ → ℕ → Lent
  taken_at file n = changed_at file (λ start bytes. after_take start bytes file n)

  abbrev pub many_taken_at : ℕ → ℕ → ℕ → Lent
  many_taken_at file d mask = changed_at file (λ start bytes. after_take_many start bytes file d mask)

  -- "6 take made: 1 if it was pending, else 0"
  unfoldable pub take_of : ℕ → ℕ → Answer
  take_of file n = unless_refused (take_refusal starts (length first) (length second) file n) refused (Taken (pending_at file n))

  unfoldable pub after_take_of : ℕ → ℕ → Lent
  after_take_of file n =
      unless_refused (take_refusal starts (length first) (length second) file n) (λ r. lent starts first second) (taken_at file n)

  -- "answers 6 with the ones that were set"
  unfoldable pub take_many_of : ℕ → ℕ → ℕ → Answer
  take_many_of file d mask =
      unless_refused (take_many_refusal starts (length first) (length second) file d) refused (Taken (answered_at file d mask))

  unfoldable pub after_take_many_of : ℕ → ℕ → ℕ → Lent
  after_take_many_of file d mask =
      unless_refused (take_many_refusal starts (length first) (length second) file d) (λ r. lent starts first second) (many_taken_at file d mask)

  unfoldable pub report_of : ℕ → Report
  report_of file =
      unless_refused (report_refusal starts (length first) (length second) file) (λ why. refused_report (number_of why))
      (file_report (part_of (lent starts first second) file 512))
