-- One more pair is read, and its ones counted.
use Rattle.std.proofs.Common.{refl, arith}
use Rattle.interrupt_file.proofs.Reports.{none_read, one_more, all_read}
use Rattle.interrupt_file.proofs.file_report.Goals as goal

pub loop-k-init : goal.loop-k-init
loop-k-init c = none_read _ _ refl

pub loop-k-preserved : goal.loop-k-preserved
loop-k-preserved c =
    one_more _ c.loop-k.invariant _ _ _ (omega arith) c.doubleword_at-pending.ensures c.doubleword_at-enable.ensures (omega (arith, c.ones-count.ensures)) (omega (arith, c.ones-count.ensures))

pub returns : goal.returns
returns c = all_read _ c.loop-k.invariant (omega arith)
