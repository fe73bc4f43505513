-- The goals of `in_directory` that the laws of this crate close.
use Rattle.iommu_translation.proofs.Translation.{directory_ways}
use Rattle.std.proofs.Common.{rules}
use Rattle.iommu_translation.proofs.in_directory.Goals as goal

pub returns-then-too_wide : goal.returns-then-too_wide
returns-then-too_wide c = search (directory_ways, rules)

pub returns-in-Ok : goal.returns-in-Ok
returns-in-Ok c = search (directory_ways, rules)

pub returns-in-Err : goal.returns-in-Err
returns-in-Err c = search (directory_ways, rules)
