-- The memory of the worked cases (01, "Cases"): "Message context: mask 3, pattern 0x80004, first stage Bare".
use Rattle.std.specs.Prelude.{ℕ, ◌-◌, false, List, [], ◌∷◌, ◌++◌, replicate}
use Rattle.causes.specs.declared.Access.{Access}
use Rattle.directory_process.specs.Found.{ProcessId}
use Rattle.iommu_refusals.specs.declared.DeviceRequest.{DeviceRequest}
use Rattle.worked_rows.specs.Memory.{words}

-- device 0: the message context, its table two pages on. Device 1: a PD17 process directory
contexts : List ℕ
contexts =
    0x1 ∷ 0x8000000000040000 ∷ 0 ∷ 0 ∷ 0x1000000000040002 ∷ 3 ∷ 0x80004 ∷ 0
    ∷ 0x21 ∷ 0 ∷ 0 ∷ 0x2000000000040001 ∷ 0 ∷ 0 ∷ 0 ∷ 0 ∷ []

-- three pages: a directory of one level, files, and a message table with one entry, that of file number 2
unfoldable pub window : ℕ → ℕ → List ℕ
unfolding words contexts
window first second =
    words contexts ++ (replicate (8192 - 128) 0 ++ (replicate 32 0 ++ (words (first ∷ second ∷ []) ++ replicate (4096 - 48) 0)))

abbrev pub ask : ℕ → ProcessId → Access → ℕ → DeviceRequest
ask device process access address =
    record { device = device; process = process; supervisor = false; access = access; address = address; length = 4 }
