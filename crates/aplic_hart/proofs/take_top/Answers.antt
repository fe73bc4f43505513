-- The goals of `take_top` that the laws of this crate close.
use Rattle.aplic_words.proofs.States.{beyond}
use Rattle.aplic_hart.proofs.Harts.{takes}
use Rattle.std.proofs.Common.{rules}
use Rattle.aplic_hart.proofs.take_top.Goals as goal

pub returns-then-value-ne0-clause-beyond : goal.returns-then-value-ne0-clause-beyond
returns-then-value-ne0-clause-beyond c = search (beyond, takes, rules)
