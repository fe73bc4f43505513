-- One more call is run, and its answer is in the buffer.
use Rattle.std.proofs.Common.{rules}
use Rattle.aplic_run.proofs.Runs.{none-run, one_more, all-run}
use Rattle.aplic_run.proofs.replay.Goals as goal

pub loop-n-init : goal.loop-n-init
loop-n-init c = search (none-run, rules)

pub loop-n-preserved : goal.loop-n-preserved
loop-n-preserved c = one_more _ _ _ _ c.loop-n.invariant _ _ _ _ c.loop-n-test.true c.call-c.ensures c.step-next.ensures.0 c.step-next.ensures.1 c.put.ensures

pub returns : goal.returns
returns c =
    let run = all-run _ _ _ _ c.loop-n.invariant _ c.new-d.ensures c.min-end.ensures c.loop-n-test.false in
    record { count = run.0; words = run.1 }
