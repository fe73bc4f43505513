-- Nothing here has to be believed: the windows' checks as the code makes them, and what a caller may rely on once no check refuses.
use Rattle.std.specs.Prelude.{ℕ, ◌%◌, ◌<◌, ◌^◌, Bool, true, not, ◌||◌, [], ◌∷◌, ◌≡◌, eqb, leb, Result, OnOk}
use Rattle.memory.specs.Code.{Walkable}
use Rattle.memory.specs.declared.Starts.{Starts}
use Rattle.iommu_refusals.specs.declared.Settings.{Settings}
use Rattle.refusal.specs.declared.Refusal.{Refusal}
use Rattle.refusal.specs.declared.Refusal.TheVariants.{BadWindows, Overlap}
use Rattle.refusal.specs.Checks.{check, first_bad}
use Rattle.iommu_refusals.specs.Refusals.{bad_windows, overlap, is_lent_file}

abbrev pub off_pages : Starts → ℕ → ℕ → Bool
off_pages starts n m =
    ((not (eqb (starts.first % 4096) 0) || not (eqb (n % 4096) 0)) || not (eqb (starts.second % 4096) 0)) || not (eqb (m % 4096) 0)

-- a start or a length of 2^57 or more
abbrev pub too_large : Starts → ℕ → ℕ → Bool
too_large starts n m = ((leb (2 ^ 57) starts.first || leb (2 ^ 57) n) || leb (2 ^ 57) starts.second) || leb (2 ^ 57) m

-- the two checks that all calls begin with
unfoldable pub window_refusal : Starts → ℕ → ℕ → Result (Unit {0}) Refusal
window_refusal starts n m = first_bad (check BadWindows (bad_windows starts n m) ∷ check Overlap (overlap starts n m) ∷ [])

-- what a caller may rely on where no check refuses
abbrev pub Whole : Starts → ℕ → ℕ → Result (Unit {0}) Refusal → Type 0
Whole starts n m r = OnOk r (Walkable starts n m)

abbrev pub Accepted : Settings → ℕ → ℕ → Result (Unit {0}) Refusal → Type 0
Accepted s n m r = OnOk r ((s.mode < 5) × (s.root < 2 ^ 44) × Walkable s.starts n m)

abbrev pub Takeable : Starts → ℕ → ℕ → ℕ → ℕ → Result (Unit {0}) Refusal → Type 0
Takeable starts n m file d r = OnOk r ((is_lent_file starts n m file ≡ true) × (d < 32) × Walkable starts n m)

abbrev pub Reportable : Starts → ℕ → ℕ → ℕ → Result (Unit {0}) Refusal → Type 0
Reportable starts n m file r = OnOk r ((is_lent_file starts n m file ≡ true) × Walkable starts n m)
