-- What a caller may ask that can change what is lent: requests and takes, of one and of many. What they are answered and what they leave are the very definitions that the routines' promises name.
use Rattle.std.specs.Prelude.{ℕ}
use Rattle.memory.specs.declared.Starts.{Starts}
use Rattle.memory.specs.Window.{Lent}
use Rattle.iommu_refusals.specs.declared.Settings.{Settings}
use Rattle.iommu_refusals.specs.declared.DeviceRequest.{DeviceRequest}
use Rattle.iommu_files.specs.declared.Answer.{Answer}
use Rattle.iommu.specs.Request.{request_of, after_request}
use Rattle.iommu_files.specs.Files.{take_of, after_take_of, take_many_of, after_take_many_of}

-- an operation's arguments: mode, root, request and data; or file and identity; or file, doubleword number and mask
pub data Op : Type 0 where
  request : ℕ → ℕ → DeviceRequest → ℕ → Op
  take : ℕ → ℕ → Op
  take_many : ℕ → ℕ → ℕ → Op

-- where its windows start, and with a directory
abbrev pub starts_of : Lent → Starts
starts_of l = record { first = l.first.start; second = l.second.start }

abbrev pub settings : Lent → ℕ → ℕ → Settings
settings l mode root = record { starts = starts_of l; mode = mode; root = root }

abbrev pub answer_of : Lent → Op → Answer
answer_of l (request mode root q d) = request_of (settings l mode root) l.first.bytes l.second.bytes q d
answer_of l (take file n) = take_of (starts_of l) l.first.bytes l.second.bytes file n
answer_of l (take_many file d mask) = take_many_of (starts_of l) l.first.bytes l.second.bytes file d mask

abbrev pub after_of : Lent → Op → Lent
after_of l (request mode root q d) = after_request (settings l mode root) l.first.bytes l.second.bytes q d
after_of l (take file n) = after_take_of (starts_of l) l.first.bytes l.second.bytes file n
after_of l (take_many file d mask) = after_take_many_of (starts_of l) l.first.bytes l.second.bytes file d mask
