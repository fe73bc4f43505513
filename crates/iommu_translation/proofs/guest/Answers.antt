-- The goals of `guest` that the laws of this crate close.
use Rattle.iommu_translation.proofs.Translation.{guest_ways}
use Rattle.std.proofs.Common.{rules}
use Rattle.std.proofs.lemmas.Result.{err_from_is_err_and}
use Rattle.iommu_translation.proofs.guest.Goals as goal

pub returns-in_err-m : goal.returns-in_err-m
returns-in_err-m c =
    let p = err_from_is_err_and c.from_residual.result c.from_residual.ensures.1 in
    rw (p.1, p.2) (search (guest_ways, c.in_err-m.was, rules))

pub returns-in-Some : goal.returns-in-Some
returns-in-Some c = search (guest_ways, c.in_ok-m.was, rules)

pub returns-in_err-place : goal.returns-in_err-place
returns-in_err-place c =
    let p = err_from_is_err_and c.from_residual-in_err-place.result c.from_residual-in_err-place.ensures.1 in
    rw (p.1, p.2) (search (guest_ways, c.in_err-place.was, rules))

pub returns : goal.returns
returns c = search (guest_ways, c.in_ok-place.was, rules)
