-- The goals of `write_hart` that the laws of this crate close.
use Rattle.aplic_words.proofs.States.{beyond}
use Rattle.aplic_write.proofs.Writes.{hart_writes}
use Rattle.std.proofs.Common.{rules}
use Rattle.aplic_write.proofs.write_hart.Goals as goal

pub returns-then-is_direct-clause-beyond : goal.returns-then-is_direct-clause-beyond
returns-then-is_direct-clause-beyond c = search (beyond, hart_writes, rules)
