-- The goals of `step` that the laws of this crate close.
use Rattle.aplic_run.proofs.Steps.{steps}
use Rattle.std.proofs.Common.{rules}
use Rattle.aplic_run.proofs.step.Goals as goal

pub returns-in-Wire : goal.returns-in-Wire
returns-in-Wire c = search (steps, rules)

pub returns-in-Read : goal.returns-in-Read
returns-in-Read c = search (steps, rules)

pub returns-in-Forward : goal.returns-in-Forward
returns-in-Forward c = search (steps, rules)

pub returns-in-Claim : goal.returns-in-Claim
returns-in-Claim c = search (steps, rules)

pub returns-in-Signal : goal.returns-in-Signal
returns-in-Signal c = search (steps, rules)
