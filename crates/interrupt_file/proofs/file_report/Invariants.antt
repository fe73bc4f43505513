-- `Read`: the first k pairs are read, and their ones counted.
use Rattle.interrupt_file.proofs.Reports.{Read}
use Rattle.interrupt_file.proofs.file_report.Given as goal

abbrev pub invariant-loop-k : goal.invariant-loop-k
invariant-loop-k l = Read l.file l.k l.count l.pairs
