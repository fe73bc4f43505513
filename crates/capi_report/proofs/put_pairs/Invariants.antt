-- `Put`: the first k pairs are put, and their ones counted.
use Rattle.capi_report.specs.Code.{pair_in}
use Rattle.capi_report.proofs.Pairs.{Put}
use Rattle.capi_report.proofs.put_pairs.Given as goal

abbrev pub invariant-loop-k : goal.invariant-loop-k
invariant-loop-k l = Put (pair_in l.bytes) l.initial.out l.k l.count l.out
