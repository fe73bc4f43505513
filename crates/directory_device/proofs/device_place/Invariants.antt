-- What is left of the walk has the whole walk's answer.
use Rattle.std.proofs.Common.{◌≡◌, ◌-◌, ◌*◌, ◌%◌, ◌<◌, ◌^◌}
use Rattle.memory.specs.Window.{memory}
use Rattle.memory.specs.Walk.{run}
use Rattle.paging.specs.Stages.{direct}
use Rattle.directory_entry.specs.declared.Tree.TheVariants.{Device}
use Rattle.directory_walk.specs.Pointers.{leaf_place}
use Rattle.directory_device.proofs.device_place.Given as goal

abbrev pub invariant-loop-n : goal.invariant-loop-n
invariant-loop-n l =
    (l.table < 2 ^ 56) × (l.table % 4096 ≡ 0)
    × (run (memory l.w) (leaf_place Device l.fn.d direct (l.n - 1) l.table)
    ≡ run (memory l.w) (leaf_place Device l.fn.d direct (l.fn.levels - 1) (l.fn.root * 4096)))
