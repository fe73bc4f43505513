-- The face for C: numbers for what the routines take and answer (D26). Nothing of a request's meaning stands here.
use Rattle.std.specs.Prelude.{ℕ, ◌%◌, Bool, List, Option, Some, None, eqb, ltb, leb, set}
use Rattle.memory.specs.Choice.{pick}
use Rattle.memory.specs.Window.{Lent}
use Rattle.causes.specs.Causes.{stage_number}
use Rattle.causes.specs.declared.Access.{Access}
use Rattle.causes.specs.declared.Access.TheVariants.{Read, Write, Execute}
use Rattle.directory_process.specs.Found.{ProcessId}
use Rattle.refusal.specs.declared.Refusal.TheVariants.{UnknownNumber}
use Rattle.iommu_refusals.specs.declared.Settings.{Settings}
use Rattle.iommu_refusals.specs.declared.DeviceRequest.{DeviceRequest}
use Rattle.iommu_files.specs.declared.Answer.{Answer}
use Rattle.iommu_files.specs.declared.Answer.TheVariants.{Translated, Redirected, Stored, Discarded, Fault, Refused, Taken}
use Rattle.iommu_files.specs.Answers.{numbers_of, refused}
use Rattle.iommu.specs.Request.{request_of, after_request}

-- "access (0 read, 1 write, 2 read-for-execute)", as document 02's case files have it
abbrev pub chosen_of : ℕ → Option Access
chosen_of a = pick (eqb a 0) (Some Read) (pick (eqb a 1) (Some Write) (pick (eqb a 2) (Some Execute) None))

-- "flags (1 process given, 2 supervisor)"
abbrev pub process_of : ℕ → ℕ → ProcessId
process_of flags p = pick (eqb (flags % 2) 1) (Some p) None

abbrev pub supervisor_of : ℕ → Bool
supervisor_of flags = leb 2 flags

-- a fault's stage; 0 for any other answer
abbrev pub stage_of : Answer → ℕ
stage_of (Fault f) = stage_number f.stage
stage_of (Translated a) = 0
stage_of (Redirected a) = 0
stage_of (Stored d) = 0
stage_of Discarded = 0
stage_of (Refused r) = 0
stage_of (Taken w) = 0

-- the first five words of a buffer: kind, three values, stage
abbrev pub with_answer : List ℕ → Answer → List ℕ
with_answer out a =
    set (set (set (set (set out 0 (numbers_of a).kind) 1 (numbers_of a).first) 2 (numbers_of a).second) 3 (numbers_of a).third) 4 (stage_of a)

-- the request that the numbers make
abbrev pub asked : ℕ → ℕ → ℕ → ℕ → ℕ → Access → DeviceRequest
asked device process flags address len x =
    record { device = device; process = process_of flags process; supervisor = supervisor_of flags; access = x; address = address; length = len }

-- where both windows start, and the directory
abbrev pub settings_at : ℕ → ℕ → ℕ → ℕ → Settings
settings_at first second mode root = record { starts = record { first = first; second = second }; mode = mode; root = root }

-- an unknown access or flag is refused with 2010, as in a case file
module _ (l : Lent) (mode root device process flags access address len value : ℕ) where
  abbrev pub settings_face : Settings
  settings_face = settings_at l.first.start l.second.start mode root

  abbrev pub chosen_face : Option Access → Answer
  chosen_face None = refused UnknownNumber
  chosen_face (Some x) = pick (ltb 3 flags) (refused UnknownNumber) (request_of settings_face l.first.bytes l.second.bytes (asked device process flags address len x) value)

  abbrev pub chosen_bytes : Option Access → Lent
  chosen_bytes None = l
  chosen_bytes (Some x) = pick (ltb 3 flags) l (after_request settings_face l.first.bytes l.second.bytes (asked device process flags address len x) value)

  unfoldable pub request_face : Answer
  request_face = chosen_face (chosen_of access)

  unfoldable pub after_face : Lent
  after_face = chosen_bytes (chosen_of access)
