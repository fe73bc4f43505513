-- The goal of `take_many_refusal` that the attribute doesn't close.
use Rattle.iommu_refusals.proofs.Refusals.{take_windows}
use Rattle.std.proofs.lemmas.Result.{err_from_is_err_and}
use Rattle.iommu_refusals.proofs.take_many_refusal.Goals as goal

pub returns-in_err-window_refusal : goal.returns-in_err-window_refusal
returns-in_err-window_refusal c =
    let p = err_from_is_err_and c.from_residual.result c.from_residual.ensures.1 in
    rw (p.1, p.2) (take_windows _ _ _ _ _ _ c.window_refusal.ensures.0 _ c.in_err-window_refusal.was, tt)
