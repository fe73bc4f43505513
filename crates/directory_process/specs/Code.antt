-- Nothing here has to be believed: the process that the code looks for.
use Rattle.std.specs.Prelude.{Bool, None, Some}
use Rattle.memory.specs.Choice.{pick}
use Rattle.directory_process.specs.Found.{ProcessId}

-- by DPE: "If DPE is 1 and there is no process_id associated with the transaction then let process_id be the default value of 0"
abbrev pub wanted_of : Bool → ProcessId → ProcessId
wanted_of dpe (Some p) = Some p
wanted_of dpe None = pick dpe (Some 0) None
