-- The goals of `Domain::claim_with` that the laws of this crate close.
use Rattle.aplic.proofs.Domains.{refused}
use Rattle.aplic_calls.proofs.Claims.{below_ok}
use Rattle.hart.proofs.Refusals.{ok-told, err-told}
use Rattle.aplic.specs.Domain.{table_of}
use Rattle.std.proofs.Common.{rules}
use Rattle.aplic.proofs.Domain.claim_with.Goals as goal

pub record_after-requires : goal.record_after-requires
unfolding table_of
record_after-requires c = search (below_ok, refused, ok-told, err-told, rules)

pub returns-in-Ok : goal.returns-in-Ok
unfolding table_of
returns-in-Ok c = search (below_ok, refused, ok-told, err-told, rules)

pub returns-in-Err : goal.returns-in-Err
unfolding table_of
returns-in-Err c = search (below_ok, refused, ok-told, err-told, rules)
