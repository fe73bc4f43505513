-- The goal of `face` that the attribute doesn't close.
use Rattle.capi_iommu.proofs.Faces.{face-bytes}
use Rattle.std.proofs.Common.{rules}
use Rattle.capi_iommu.proofs.face.Goals as goal

pub returns-clause-bytes : goal.returns-clause-bytes
returns-clause-bytes c = search (face-bytes, rules)
