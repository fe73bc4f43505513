-- The goals of `Domain::signal` that the laws of this crate close.
use Rattle.aplic.proofs.Domains.{refused}
use Rattle.aplic_calls.proofs.Claims.{below_ok}
use Rattle.hart.proofs.Refusals.{ok-told, err-told}
use Rattle.aplic.specs.Domain.{table_of}
use Rattle.std.proofs.Common.{rules}
use Rattle.aplic.proofs.Domain.signal.Goals as goal

pub returns-in-Ok : goal.returns-in-Ok
unfolding table_of
returns-in-Ok c = search (below_ok, refused, ok-told, err-told, rules)
