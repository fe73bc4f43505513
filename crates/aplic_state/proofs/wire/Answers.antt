-- The goals of `wire` that the laws of this crate close.
use Rattle.aplic_words.proofs.States.{beyond}
use Rattle.std.proofs.Common.{rules}
use Rattle.aplic_state.proofs.wire.Goals as goal

pub returns-clause-beyond : goal.returns-clause-beyond
returns-clause-beyond c = search (beyond, rules)
