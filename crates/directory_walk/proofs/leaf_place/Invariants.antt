-- What is left of the walk has the whole walk's answer.
use Rattle.std.proofs.Common.{◌≡◌, ◌-◌, ◌*◌, ◌<◌, ◌^◌}
use Rattle.memory.specs.Window.{memory}
use Rattle.memory.specs.Walk.{run}
use Rattle.directory_walk.specs.Pointers.{guest_place, leaf_place}
use Rattle.directory_walk.proofs.leaf_place.Given as goal

abbrev pub invariant-loop-n : goal.invariant-loop-n
invariant-loop-n l =
    (l.table < 2 ^ 56)
    × (run (memory l.w) (leaf_place l.fn.t l.fn.id (guest_place l.fn.g l.fn.x) (l.n - 1) l.table)
    ≡ run (memory l.w) (leaf_place l.fn.t l.fn.id (guest_place l.fn.g l.fn.x) (l.fn.levels - 1) (l.fn.root * 4096)))
