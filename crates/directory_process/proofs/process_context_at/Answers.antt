-- The goals of `process_context_at` that the laws of this crate close.
use Rattle.directory_process.proofs.Process.{process_context_ways}
use Rattle.std.proofs.Common.{rules}
use Rattle.directory_process.proofs.process_context_at.Goals as goal

pub returns-in_default : goal.returns-in_default
returns-in_default c = search (process_context_ways, rules)

pub returns-then-not-bit : goal.returns-then-not-bit
returns-then-not-bit c = search (process_context_ways, rules)

pub returns-in_default-load64 : goal.returns-in_default-load64
returns-in_default-load64 c = search (process_context_ways, rules)

pub returns : goal.returns
returns c = search (process_context_ways, rules)
