-- What is left of the walk in this window gives what the whole of it gives; the measure is the level.
use Rattle.std.proofs.Common.{◌≡◌, ◌+◌, ◌*◌, ◌%◌, ◌^◌, ◌<◌}
use Rattle.memory.specs.Window.{window_at}
use Rattle.paging_scheme.specs.Scheme.{levels_of}
use Rattle.paging.specs.Code.{near_walk}
use Rattle.paging.proofs.near_walk.Given as goal

abbrev pub invariant-loop-next : goal.invariant-loop-next
invariant-loop-next l =
    (l.n < 5) × (l.n < levels_of l.fn.s) × (l.shift ≡ 12 + 9 * l.n) × (l.d < 2 ^ 64)
    × (near_walk l.fn.s l.fn.t l.fn.a (window_at l.fn.start l.window) l.n ((l.d + l.fn.start) % 2 ^ 64)
    ≡ near_walk l.fn.s l.fn.t l.fn.a (window_at l.fn.start l.window) l.fn.level l.fn.place)

abbrev pub decreases-loop-next : goal.decreases-loop-next
decreases-loop-next l = l.n
