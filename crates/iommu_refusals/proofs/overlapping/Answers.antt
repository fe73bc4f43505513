-- The goals of `overlapping` that the laws of this crate close.
use Rattle.iommu_refusals.proofs.Refusals.{overlap-is}
use Rattle.std.proofs.Common.{rules}
use Rattle.iommu_refusals.proofs.overlapping.Goals as goal

pub returns : goal.returns
returns c = search (overlap-is, rules)
