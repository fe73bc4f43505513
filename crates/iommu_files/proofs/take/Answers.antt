-- The goals of `take` that the laws of this crate close.
use Rattle.iommu_files.proofs.Files.{one_made, one-refused, one_leaves}
use Rattle.std.proofs.Common.{rules}
use Rattle.iommu_files.proofs.take.Goals as goal

pub returns-in_default : goal.returns-in_default
returns-in_default c = search (one_made, one-refused, one_leaves, rules)

pub returns-clause-answer : goal.returns-clause-answer
returns-clause-answer c = search (one_made, one-refused, one_leaves, rules)

pub returns-clause-bytes : goal.returns-clause-bytes
returns-clause-bytes c = search (one_made, one-refused, one_leaves, rules)
