-- The goals of `yasmurekh_aplic_claim` that the laws of this crate close.
use Rattle.hart.proofs.Refusals.{hart_number}
use Rattle.capi_aplic.proofs.Wired.{wired_ways}
use Rattle.std.proofs.Common.{rules}
use Rattle.capi_aplic.proofs.yasmurekh_aplic_claim.Goals as goal

pub returns-in-Err-clause-told : goal.returns-in-Err-clause-told
returns-in-Err-clause-told c = search (hart_number, wired_ways, rules)

pub returns-in-Err-clause-answer : goal.returns-in-Err-clause-answer
returns-in-Err-clause-answer c = search (hart_number, wired_ways, rules)

pub returns-in-Err-clause-table : goal.returns-in-Err-clause-table
returns-in-Err-clause-table c = search (hart_number, wired_ways, rules)
