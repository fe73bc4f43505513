-- The goal of `near_walk` at the last level.
use Rattle.paging.proofs.StandLaws.{stand_last}
use Rattle.std.proofs.Common.{rules}
use Rattle.paging.proofs.near_walk.Goals as goal

pub returns-then-shift-lt21 : goal.returns-then-shift-lt21
returns-then-shift-lt21 c = search (stand_last, rules)
