-- The goals of `configure` that the laws of this crate close.
use Rattle.aplic_words.proofs.States.{beyond-both}
use Rattle.std.proofs.Common.{rules}
use Rattle.aplic_write.proofs.configure.Goals as goal

pub returns-clause-beyond : goal.returns-clause-beyond
returns-clause-beyond c = search (beyond-both, rules)
