-- The goals of `entry` that the laws of this crate close.
use Rattle.memory.proofs.Offsets.{entry_ways}
use Rattle.std.proofs.Common.{rules}
use Rattle.memory.proofs.Windows.entry.Goals as goal

pub returns-then-bytes-size : goal.returns-then-bytes-size
returns-then-bytes-size c = rw (← c.self.view_is) (search (entry_ways, c.self.invariant, rules))

pub returns : goal.returns
returns c = rw (← c.self.view_is) (search (entry_ways, c.self.invariant, rules))
