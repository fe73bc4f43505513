-- The goals of `request_refusal` that the laws of this crate close.
use Rattle.iommu_refusals.proofs.Refusals.{request_checks, refused-windows}
use Rattle.std.proofs.Common.{rules}
use Rattle.std.proofs.lemmas.Result.{err_from_is_err_and}
use Rattle.iommu_refusals.proofs.request_refusal.Goals as goal

pub returns-in_err-window_refusal : goal.returns-in_err-window_refusal
returns-in_err-window_refusal c =
    let p = err_from_is_err_and c.from_residual.result c.from_residual.ensures.1 in
    rw (p.1, p.2) (refused-windows _ _ _ _ _ c.window_refusal.ensures.0 _ c.in_err-window_refusal.was, tt)

pub returns-then-bad_directory : goal.returns-then-bad_directory
returns-then-bad_directory c = search (request_checks, rules)

pub returns-then-bad_device : goal.returns-then-bad_device
returns-then-bad_device c = search (request_checks, rules)

pub returns-then-bad_process : goal.returns-then-bad_process
returns-then-bad_process c = search (request_checks, rules)

pub returns-then-unnamed : goal.returns-then-unnamed
returns-then-unnamed c = search (request_checks, rules)

pub returns-then-bad_length : goal.returns-then-bad_length
returns-then-bad_length c = search (request_checks, rules)

pub returns : goal.returns
returns c = search (request_checks, rules)
