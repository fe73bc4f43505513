-- What is left of the walk gives what the whole gives; the measure is the level.
use Rattle.std.proofs.Common.{Some, ◌≡◌, ◌+◌, ◌*◌, ◌<◌}
use Rattle.memory.specs.Window.{memory}
use Rattle.memory.specs.Walk.{run}
use Rattle.paging_scheme.specs.Scheme.{levels_of}
use Rattle.paging.specs.Levels.{levels}
use Rattle.paging.specs.Stages.{entry_place}
use Rattle.paging.specs.Code.{levels_at}
use Rattle.paging.proofs.guest_descend.Given as goal

abbrev pub invariant-loop-end : goal.invariant-loop-end
invariant-loop-end l =
    (l.n < 5) × (l.n < levels_of l.fn.s) × (l.low ≡ 12 + 9 * l.n)
    × (run (memory l.w) (levels_at l.fn.q (entry_place (Some l.fn.g) l.fn.q) l.fn.s l.n l.at)
    ≡ run (memory l.w) (levels l.fn.s l.fn.q (entry_place (Some l.fn.g) l.fn.q) (levels_of l.fn.s) l.fn.root))

abbrev pub decreases-loop-end : goal.decreases-loop-end
decreases-loop-end l = l.n
