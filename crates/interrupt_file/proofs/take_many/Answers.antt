-- The goals of `take_many` that the laws of this crate close.
use Rattle.interrupt_file.proofs.Many.{were_set, left_by}
use Rattle.interrupt_file.proofs.Bytes.{Bytes}
use Rattle.std.proofs.Common.{rules}
use Rattle.interrupt_file.proofs.take_many.Goals as goal

pub returns-clause-value : goal.returns-clause-value
returns-clause-value c = search (were_set, left_by, Bytes, rules)

pub returns-clause-window_after : goal.returns-clause-window_after
returns-clause-window_after c = search (were_set, left_by, Bytes, rules)
