-- In the other order the windows are the same memory.
use Rattle.memory.specs.Window.{lent, memory}
use Rattle.iommu_translation.proofs.Translation.{memory-turned}
use Rattle.std.proofs.Common.{ap, ◌∙◌}
use Rattle.iommu_translation.proofs.ordered.Goals as goal

pub returns-then-within : goal.returns-then-within
returns-then-within c =
    memory-turned (lent c.w.inside.starts c.w.inside.first.now c.w.inside.second.now) c.w.invariant _ c.turned.ensures ∙ ap memory c.w.view_is
