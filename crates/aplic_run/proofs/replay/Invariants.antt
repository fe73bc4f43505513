-- `Replayed`: n calls are run, their answers are in the buffer, and the domain is as they leave it.
use Rattle.aplic.specs.Domain.{table_of}
use Rattle.aplic_run.proofs.Runs.{Replayed}
use Rattle.aplic_run.proofs.replay.Given as goal

abbrev pub invariant-loop-n : goal.invariant-loop-n
invariant-loop-n l = Replayed (table_of l.initial.d) l.calls l.initial.out l.end l.n l.d l.out
