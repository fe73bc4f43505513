-- The goals of `forward` that the laws of this crate close.
use Rattle.aplic_words.proofs.States.{beyond-put}
use Rattle.aplic_state.proofs.Calls.{forward-goes}
use Rattle.std.proofs.Common.{rules}
use Rattle.aplic_state.proofs.forward.Goals as goal

pub returns-then-n-lt64-clause-table : goal.returns-then-n-lt64-clause-table
returns-then-n-lt64-clause-table c = search (forward-goes, rules)

pub returns-then-n-lt64-clause-beyond : goal.returns-then-n-lt64-clause-beyond
returns-then-n-lt64-clause-beyond c = search (beyond-put, rules)
