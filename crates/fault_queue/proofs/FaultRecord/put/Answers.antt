-- The goal of `put` that a law of this crate closes.
use Rattle.fault_queue.proofs.Records.{four_put}
use Rattle.std.proofs.Common.{rules}
use Rattle.fault_queue.proofs.FaultRecord.put.Goals as goal

pub returns : goal.returns
returns c = search (four_put, rules)
