-- The goals of `descend` that the laws of this crate close.
use Rattle.memory.specs.Window.{memory}
use Rattle.paging.proofs.CodeLaws.{raw_ways}
use Rattle.paging.proofs.StandLaws.{turn_less, turn_ways}
use Rattle.std.proofs.Common.{ap, rules}
use Rattle.paging.proofs.descend.Goals as goal

pub loop-end-init : goal.loop-end-init
loop-end-init c = search (raw_ways, turn_less, turn_ways, c.w.invariant, ap memory c.w.view_is, rules)

pub returns-in-End : goal.returns-in-End
returns-in-End c = search (raw_ways, turn_ways, rules)

pub returns-then-not-within : goal.returns-then-not-within
returns-then-not-within c = search (raw_ways, turn_ways, rules)

pub loop-end-smaller : goal.loop-end-smaller
loop-end-smaller c = search (raw_ways, turn_less, turn_ways, rules)

pub loop-end-preserved : goal.loop-end-preserved
loop-end-preserved c = search (raw_ways, turn_ways, rules)
