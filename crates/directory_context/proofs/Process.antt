-- The process context's checks. Assumes nothing.
use mathlib.Core.Bool.{Bool, not, ◌||◌}
use mathlib.Core.Path.{◌≡◌, ap}
use Rattle.memory.specs.Bits.{any_set}
use Rattle.memory.proofs.Tests.{or4}
use Rattle.directory_entry.specs.Fields.{valid_mode}
use Rattle.directory_context.specs.declared.ProcessContext.{ProcessContext}
use Rattle.directory_context.specs.Process.{process_misconfigured}

pub process_checks : (c : ProcessContext) (x y z u : Bool) → x ≡ any_set c.ta 11 3 → y ≡ any_set c.ta 63 32 → z ≡ any_set c.fsc 59 44 → u ≡ valid_mode c.fsc → (((x || y) || z) || not u) ≡ process_misconfigured c
unfolding process_misconfigured
process_checks c x y z u p q r s = or4 p q r (ap not s)
