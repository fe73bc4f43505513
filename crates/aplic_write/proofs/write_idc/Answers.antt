-- The goals of `write_idc` that the laws of this crate close.
use Rattle.aplic_calls.proofs.Claims.{idc_writes}
use Rattle.aplic_words.proofs.States.{beyond}
use Rattle.aplic_write.proofs.Writes.{changed-hart}
use Rattle.register.proofs.Known.{knowing}
use Rattle.std.proofs.Common.{rules}
use Rattle.aplic_write.proofs.write_idc.Goals as goal

pub returns-in-OfHart-clause-table : goal.returns-in-OfHart-clause-table
returns-in-OfHart-clause-table c = search (idc_writes, beyond, changed-hart, knowing, rules)

pub returns-in-OfHart-clause-ignored : goal.returns-in-OfHart-clause-ignored
returns-in-OfHart-clause-ignored c = search (idc_writes, beyond, changed-hart, knowing, rules)
