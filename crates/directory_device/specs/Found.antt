-- What the search for a device's context finds.
use Rattle.std.specs.declared.result.Result.{Result}
use Rattle.causes.specs.declared.FaultInfo.{FaultInfo}
use Rattle.directory_context.specs.declared.DecodedContext.{DecodedContext}

-- the context, or a fault
abbrev pub DeviceFound : Type 0
DeviceFound = Result DecodedContext FaultInfo
