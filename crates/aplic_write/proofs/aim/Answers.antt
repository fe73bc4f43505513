-- The goals of `aim` that the laws of this crate close.
use Rattle.aplic_words.proofs.States.{beyond}
use Rattle.aplic_write.proofs.Writes.{ones}
use Rattle.std.proofs.Common.{rules}
use Rattle.aplic_write.proofs.aim.Goals as goal

pub returns-clause-beyond : goal.returns-clause-beyond
returns-clause-beyond c = search (beyond, ones, rules)
