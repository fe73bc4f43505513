-- The goal of `report` that the attribute doesn't close.
use Rattle.iommu_files.proofs.Files.{report_ways}
use Rattle.std.proofs.Common.{rules}
use Rattle.iommu_files.proofs.report.Goals as goal

pub returns-in-Err : goal.returns-in-Err
returns-in-Err c = search (report_ways, rules)
