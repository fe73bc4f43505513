-- The goals of `read_bits` that the laws of this crate close.
use Rattle.aplic_calls.proofs.Tables.{shows}
use Rattle.std.proofs.Common.{rules}
use Rattle.aplic_calls.proofs.read_bits.Goals as goal

pub returns-in-SetIp : goal.returns-in-SetIp
returns-in-SetIp c = search (shows, rules)

pub returns-in-InClrIp : goal.returns-in-InClrIp
returns-in-InClrIp c = search (shows, rules)

pub returns-in-SetIe : goal.returns-in-SetIe
returns-in-SetIe c = search (shows, rules)
