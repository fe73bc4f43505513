-- One more pair is put, and its ones counted.
use Rattle.std.proofs.Common.{arith}
use Rattle.capi_report.proofs.Pairs.{none-put, one_more}
use Rattle.capi_report.proofs.put_pairs.Goals as goal

pub loop-k-init : goal.loop-k-init
loop-k-init c = none-put _ _

pub loop-k-preserved : goal.loop-k-preserved
loop-k-preserved c =
    one_more _ _ c.loop-k.invariant _ _ _ (omega arith) c.word_in-pending.ensures c.word_in-enable.ensures (omega (arith, c.ones-count.ensures)) (omega (arith, c.ones-count.ensures))
