-- `Looked`: the best of those that were looked at, and those that are left.
use Rattle.std.proofs.Common.{◌≤◌, length}
use Rattle.word.specs.Word.{contains, lowest}
use Rattle.aplic_calls.proofs.Tops.{Looked}
use Rattle.aplic_words.specs.State.{common_in, sources_in, target_in}
use Rattle.aplic_hart.proofs.top.Given as goal

abbrev pub invariant-loop-i : goal.invariant-loop-i
invariant-loop-i l = (87 ≤ length l.state) × Looked (common_in l.state) (sources_in l.state) (target_in l.state) l.fn.hart l.fn.threshold l.i-iterator.left l.best (lowest 63 1 (contains l.i-iterator.left))
