-- The goals of `Domain::new` that the laws of this crate close.
use Rattle.aplic.proofs.Domains.{born}
use Rattle.aplic.specs.Domain.{table_of}
use Rattle.std.proofs.Common.{rules}
use Rattle.aplic.proofs.Domain.new.Goals as goal

pub returns : goal.returns
unfolding table_of
returns c = search (born, rules)
