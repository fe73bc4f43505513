-- The goals of `take_many` that the attribute doesn't close.
use Rattle.iommu_files.proofs.Files.{many_ways}
use Rattle.std.proofs.Common.{rules}
use Rattle.iommu_files.proofs.take_many.Goals as goal

pub returns-in-Err-clause-answer : goal.returns-in-Err-clause-answer
returns-in-Err-clause-answer c = search (many_ways, rules)

pub returns-clause-bytes : goal.returns-clause-bytes
returns-clause-bytes c = search (many_ways, rules)
