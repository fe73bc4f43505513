-- The goals of `read_idc` that the laws of this crate close.
use Rattle.register.proofs.Known.{knowing}
use Rattle.aplic_calls.proofs.Claims.{idc_reads, lefts}
use Rattle.aplic_state.proofs.Calls.{claimed_else}
use Rattle.std.proofs.Common.{rules}
use Rattle.aplic_state.proofs.read_idc.Goals as goal

pub returns-in-ClaimI-clause-table : goal.returns-in-ClaimI-clause-table
returns-in-ClaimI-clause-table c = search (knowing, idc_reads, lefts, claimed_else, rules)

pub returns-in-ClaimI-clause-same : goal.returns-in-ClaimI-clause-same
returns-in-ClaimI-clause-same c = search (knowing, idc_reads, lefts, claimed_else, rules)
