-- The goal of `request` that the attribute doesn't close.
use Rattle.iommu.proofs.Requests.{request_ways}
use Rattle.std.proofs.Common.{rules}
use Rattle.iommu.proofs.request.Goals as goal

pub returns-in-Err-clause-answer : goal.returns-in-Err-clause-answer
returns-in-Err-clause-answer c = search (request_ways, rules)
