-- The goals of `put_sent` that the laws of this crate close.
use Rattle.capi_aplic.proofs.Wired.{sent_by}
use Rattle.capi_aplic.specs.Wired.{with_sent}
use Rattle.std.proofs.Common.{rules}
use Rattle.capi_aplic.proofs.put_sent.Goals as goal

pub returns-in-None : goal.returns-in-None
unfolding with_sent
returns-in-None c = search (sent_by, rules)

pub returns-in-Some : goal.returns-in-Some
unfolding with_sent
returns-in-Some c = search (sent_by, rules)
