-- The goals of `yasmurekh_aplic_wire` that the laws of this crate close.
use Rattle.aplic_calls.proofs.Fields.{wire_number}
use Rattle.capi_aplic.proofs.Wired.{wired_ways}
use Rattle.std.proofs.Common.{rules}
use Rattle.capi_aplic.proofs.yasmurekh_aplic_wire.Goals as goal

pub returns-in-Err-clause-told : goal.returns-in-Err-clause-told
returns-in-Err-clause-told c = search (wire_number, wired_ways, rules)

pub returns-in-Err-clause-table : goal.returns-in-Err-clause-table
returns-in-Err-clause-table c = search (wire_number, wired_ways, rules)
