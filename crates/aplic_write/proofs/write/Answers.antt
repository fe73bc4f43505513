-- The goals of `write` that the laws of this crate close.
use Rattle.aplic_calls.proofs.Tables.{spans}
use Rattle.aplic_write.proofs.Writes.{ignoring}
use Rattle.std.proofs.Common.{rules}
use Rattle.aplic_write.proofs.write.Goals as goal

pub returns-then-offset-lt16384-clause-ignored : goal.returns-then-offset-lt16384-clause-ignored
returns-then-offset-lt16384-clause-ignored c = search (spans, ignoring, rules)

pub returns-else-offset-lt16384-clause-ignored : goal.returns-else-offset-lt16384-clause-ignored
returns-else-offset-lt16384-clause-ignored c = search (spans, ignoring, rules)
