-- The goals of `stages` that the laws of this crate close.
use Rattle.iommu_translation.proofs.Translation.{stages_ways}
use Rattle.std.proofs.Common.{rules}
use Rattle.std.proofs.lemmas.Result.{err_from_is_err_and}
use Rattle.iommu_translation.proofs.stages.Goals as goal

pub returns-in_err-a : goal.returns-in_err-a
returns-in_err-a c =
    let p = err_from_is_err_and c.from_residual.result c.from_residual.ensures.1 in
    rw (p.1, p.2) (search (stages_ways, c.in_err-a.was, rules))

pub returns-then-is_none : goal.returns-then-is_none
returns-then-is_none c = search (stages_ways, rules)

pub returns : goal.returns
returns c = search (stages_ways, c.in_ok-a.was, rules)
