-- The standard's causes (01, "The two walks": "Causes follow the original access").
use Rattle.std.specs.Prelude.{ℕ, Bool, true, false}
use Rattle.causes.specs.declared.Access.{Access}
use Rattle.causes.specs.declared.Access.TheVariants.{Read, Write, Execute}
use Rattle.causes.specs.declared.Stage.{Stage}
use Rattle.causes.specs.declared.Stage.TheVariants.{Directory, ProcessDirectory, First, Second, MessageTable}
use Rattle.causes.specs.declared.FaultInfo.{FaultInfo}

abbrev pub is_write : Access → Bool
is_write Read = false
is_write Write = true
is_write Execute = false

abbrev pub is_execute : Access → Bool
is_execute Read = false
is_execute Write = false
is_execute Execute = true

-- "access fault 1, 5, 7 (execute, read, write)"
abbrev pub access_fault : Access → ℕ
access_fault Execute = 1
access_fault Read = 5
access_fault Write = 7

-- "page fault 12, 13, 15"
abbrev pub page_fault : Access → ℕ
page_fault Execute = 12
page_fault Read = 13
page_fault Write = 15

-- "guest page fault 20, 21, 23"
abbrev pub guest_page_fault : Access → ℕ
guest_page_fault Execute = 20
guest_page_fault Read = 21
guest_page_fault Write = 23

abbrev pub fault_at : Stage → ℕ → FaultInfo
fault_at s c = record { cause = c; stage = s }

-- "directory for 256 to 260": 003, "Transaction type disallowed", wherever it is found
abbrev pub disallowed : FaultInfo
disallowed = fault_at Directory 260

-- our own numbers for the stages, in the order in which 01 lists them (D24)
abbrev pub stage_number : Stage → ℕ
stage_number Directory = 0
stage_number ProcessDirectory = 1
stage_number First = 2
stage_number Second = 3
stage_number MessageTable = 4
