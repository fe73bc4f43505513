-- What a walk's purpose decides: the permission that it asks of the page, and its faults (01, "The two walks" and the list of stages; D1, D2, D7).
use Rattle.std.specs.Prelude.{ℕ}
use Rattle.std.specs.declared.result.Result.{Result}
use Rattle.std.specs.declared.ops.ControlFlow.{ControlFlow}
use Rattle.causes.specs.Causes.{access_fault, page_fault, guest_page_fault, fault_at}
use Rattle.causes.specs.declared.Access.{Access}
use Rattle.causes.specs.declared.Access.TheVariants.{Read}
use Rattle.causes.specs.declared.Stage.TheVariants.{First, Second, ProcessDirectory}
use Rattle.causes.specs.declared.FaultInfo.{FaultInfo}
use Rattle.paging_entry.specs.declared.Purpose.{Purpose}
use Rattle.paging_entry.specs.declared.Purpose.TheVariants.{FirstStage, SecondStage, FirstStageEntry, ProcessEntry}

-- what a translation answers: an address, or a fault
abbrev pub Translation : Type 0
Translation = Result ℕ FaultInfo

-- what one level of a walk leads to: its end, or the page of the next table
abbrev pub Step : Type 0
Step = ControlFlow Translation ℕ

-- the access that the page must permit: an implicit access is a read, whatever the device asked
abbrev pub asked_of : Purpose → Access → Access
asked_of FirstStage x = x
asked_of SecondStage x = x
asked_of FirstStageEntry x = Read
asked_of ProcessEntry x = Read

-- an entry that faults: "Causes follow the original access"; "second for any fault of a guest-address walk, also one made inside another walk"
abbrev pub page_fault_of : Purpose → Access → FaultInfo
page_fault_of FirstStage x = fault_at First (page_fault x)
page_fault_of SecondStage x = fault_at Second (guest_page_fault x)
page_fault_of FirstStageEntry x = fault_at Second (guest_page_fault x)
page_fault_of ProcessEntry x = fault_at Second (guest_page_fault x)

-- an entry that can't be read. 003: "An access fault in the second stage is reported as PDT entry load access fault (cause = 265)"
abbrev pub access_fault_of : Purpose → Access → FaultInfo
access_fault_of FirstStage x = fault_at First (access_fault x)
access_fault_of SecondStage x = fault_at Second (access_fault x)
access_fault_of FirstStageEntry x = fault_at Second (access_fault x)
access_fault_of ProcessEntry x = fault_at ProcessDirectory 265
