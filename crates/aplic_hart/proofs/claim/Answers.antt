-- The goals of `claim` that the laws of this crate close.
use Rattle.aplic_words.proofs.States.{not-message}
use Rattle.aplic_hart.proofs.Harts.{claim_values, claim_tables, claim-beyond}
use Rattle.std.proofs.Common.{rules}
use Rattle.aplic_hart.proofs.claim.Goals as goal

pub returns-then-value-eq0-clause-beyond : goal.returns-then-value-eq0-clause-beyond
returns-then-value-eq0-clause-beyond c = search (not-message, claim_values, claim_tables, claim-beyond, rules)
