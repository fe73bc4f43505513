-- What is left of the walk gives what the whole gives, in windows of either order; the measure is the level, and whether the near window holds the entry.
use Rattle.std.proofs.Common.{◌≡◌, ◌+◌, ◌*◌, ◌<◌, length}
use Rattle.memory.specs.Choice.{pick}
use Rattle.memory.specs.Window.{inside, lent, memory}
use Rattle.memory.specs.Walk.{run}
use Rattle.memory.specs.Code.{Walkable}
use Rattle.paging_scheme.specs.Scheme.{levels_of}
use Rattle.paging_entry.specs.Code.{code_of}
use Rattle.paging.specs.Code.{raw_from, raw_walk}
use Rattle.paging.proofs.descend.Given as goal

abbrev pub invariant-loop-end : goal.invariant-loop-end
invariant-loop-end l =
    (l.n < 5) × (l.n < levels_of l.fn.s) × (l.shift ≡ 12 + 9 * l.n) × Walkable l.order (length l.near) (length l.far)
    × (memory (lent l.order l.near l.far) ≡ memory l.w)
    × (code_of (run (memory l.w) (raw_from l.fn.s l.fn.t l.fn.a l.n l.at))
    ≡ code_of (run (memory l.w) (raw_walk l.fn.s l.fn.t l.fn.a l.fn.root)))

abbrev pub decreases-loop-end : goal.decreases-loop-end
decreases-loop-end l = 2 * l.n + pick (inside l.order.first (length l.near) l.at 8) 0 1
