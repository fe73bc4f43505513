-- The goal of `guest_descend` at the last level.
use Rattle.paging.proofs.CodeLaws.{walk_ways}
use Rattle.std.proofs.Common.{rules}
use Rattle.paging.proofs.guest_descend.Goals as goal

pub returns-then-low-lt21 : goal.returns-then-low-lt21
returns-then-low-lt21 c = search (walk_ways, rules)
