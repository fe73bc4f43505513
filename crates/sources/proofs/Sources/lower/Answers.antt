-- The goals of `Sources::lower` that the laws of this crate close.
use Rattle.sources.proofs.Actions.{masks}
use Rattle.std.proofs.Common.{rules}
use Rattle.sources.proofs.Sources.lower.Goals as goal

pub returns : goal.returns
returns c = search (masks, rules)
