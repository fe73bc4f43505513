-- The first stage that a request is given.
use Rattle.std.specs.Prelude.{ℕ, Bool}
use Rattle.std.specs.declared.result.Result.{Result}
use Rattle.causes.specs.declared.FaultInfo.{FaultInfo}
use Rattle.std.specs.declared.option.Option.{Option}
use Rattle.paging.specs.Table.{StageTable}
use Rattle.directory_process.specs.declared.FirstStage.{FirstStage}

-- 01: "an optional process_id"
abbrev pub ProcessId : Type 0
ProcessId = Option ℕ

-- the first stage's table and SUM, or a fault
abbrev pub PageTableInfo : Type 0
PageTableInfo = Result FirstStage FaultInfo

abbrev pub stage_of : Option StageTable → Bool → FirstStage
stage_of table sum = record { table = table; sum = sum }
