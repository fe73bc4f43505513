-- Nothing here has to be believed: what a store leaves, by whether a window holds the file.
use Rattle.std.specs.Prelude.{ℕ, Bool, true, false, List}
use Rattle.memory.specs.declared.Starts.{Starts}
use Rattle.memory.specs.Window.{Lent, lent}
use Rattle.iommu.specs.Request.{stored_at}

abbrev pub stored_if : Bool → Starts → List ℕ → List ℕ → ℕ → ℕ → Lent
stored_if true starts first second file n = stored_at starts first second file n
stored_if false starts first second file n = lent starts first second
