-- The C functions that may change what is lent, as calls: what each tells, writes into its buffer and leaves of both windows. Their promises name these very definitions, and so does demand 3 of lists of C calls (`capi_ledger`).
use Rattle.std.specs.Prelude.{ℕ, List}
use Rattle.memory.specs.Window.{Lent}
use Rattle.iommu_files.specs.Files.{take_of, after_take_of, take_many_of, after_take_many_of}
use Rattle.iommu.specs.Operations.{starts_of}
use Rattle.capi_room.specs.Room.{status, fitting}
use Rattle.capi_iommu.specs.Face.{with_answer, request_face, after_face}

-- a call's arguments beside the windows: mode, root, device, process, flags, access, address, length, data and the buffer's words; or file, identity and the buffer's words; or file, doubleword number, mask and the buffer's words
pub data CCall : Type 0 where
  requested : ℕ → ℕ → ℕ → ℕ → ℕ → ℕ → ℕ → ℕ → ℕ → List ℕ → CCall
  taken : ℕ → ℕ → List ℕ → CCall
  taken_many : ℕ → ℕ → ℕ → List ℕ → CCall

abbrev pub status_of : CCall → ℕ
status_of (requested mode root device process flags access address len value out) = status 5 out
status_of (taken file n out) = status 5 out
status_of (taken_many file d mask out) = status 5 out

-- the buffer's words after
abbrev pub words_of : Lent → CCall → List ℕ
words_of l (requested mode root device process flags access address len value out) =
    fitting 5 out out (with_answer out (request_face l mode root device process flags access address len value))
words_of l (taken file n out) = fitting 5 out out (with_answer out (take_of (starts_of l) l.first.bytes l.second.bytes file n))
words_of l (taken_many file d mask out) = fitting 5 out out (with_answer out (take_many_of (starts_of l) l.first.bytes l.second.bytes file d mask))

-- what is lent after: the bytes of both windows, which stay where they start
abbrev pub left_of : Lent → CCall → Lent
left_of l (requested mode root device process flags access address len value out) =
    fitting 5 out l (after_face l mode root device process flags access address len value)
left_of l (taken file n out) = fitting 5 out l (after_take_of (starts_of l) l.first.bytes l.second.bytes file n)
left_of l (taken_many file d mask out) = fitting 5 out l (after_take_many_of (starts_of l) l.first.bytes l.second.bytes file d mask)
