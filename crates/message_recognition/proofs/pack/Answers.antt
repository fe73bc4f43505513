-- The laws of `Rounds`, at each place of the loop.
use Rattle.std.proofs.Common.{arith}
use Rattle.message_recognition.proofs.Rounds.{begins, ready, shrinks, again, stops}
use Rattle.message_recognition.proofs.pack.Goals as goal

pub loop-p-init : goal.loop-p-init
loop-p-init c = begins _ _ _ (omega arith)

pub round-p-requires : goal.round-p-requires
round-p-requires c = ready c.loop-p.invariant (omega arith)

pub loop-p-smaller : goal.loop-p-smaller
loop-p-smaller c = shrinks c.loop-p.invariant (omega arith) c.round-p.result c.round-p.ensures

pub loop-p-preserved : goal.loop-p-preserved
loop-p-preserved c = again c.loop-p.invariant (omega arith) c.round-p.result c.round-p.ensures

pub returns : goal.returns
returns c = stops c.loop-p.invariant (omega arith)
