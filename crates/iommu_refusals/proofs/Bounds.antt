-- What follows where no check refuses. Assumes nothing.
use Prim.Native.Nat.{ℕ, ◌%◌, ◌<◌, ◌≤◌, ◌^◌}
use mathlib.Core.Bool.{Bool, true, false, ◌&&◌, ◌||◌}
use mathlib.Core.List.{List}
use mathlib.Core.Path.{◌≡◌, refl, subst}
use native.Mathlib.Omega.{arith}
use lib.Dec.{eqb}
use lib.ListN.{length}
use Rattle.std.specs.Prelude.{Result, Ok}
use Rattle.memory.specs.Code.{Walkable}
use Rattle.memory.specs.declared.Starts.{Starts}
use Rattle.memory.specs.Window.{inside, lent, part_of}
use Rattle.memory.proofs.Loads.{part-long-first, part-long-second}
use Rattle.interrupt_file.specs.File.{is_file}
use Rattle.refusal.specs.declared.Refusal.{Refusal}
use Rattle.iommu_refusals.specs.declared.Settings.{Settings}
use Rattle.iommu_refusals.specs.Refusals.{is_lent_file}
use Rattle.iommu_refusals.specs.Code.{Accepted, Takeable, Reportable}

-- a request
module _ (s : Settings) (n m : ℕ) (r : Result (Unit {0}) Refusal) (h : Accepted s n m r) (u : Unit {0}) (z : r ≡ Ok u) where
  all : Accepted s n m (Ok u)
  all = subst (Accepted s n m) z h

  pub accepted-mode : s.mode < 5
  accepted-mode = all.0

  pub accepted-root : s.root < 2 ^ 44
  accepted-root = all.1

  pub accepted_walkable : Walkable s.starts n m
  accepted_walkable = all.2

-- a file that is in either window and not in the first is in the second
pub in_second : (starts : Starts) (n m file : ℕ) (b : Bool) → is_lent_file starts n m file ≡ true → b ≡ is_file starts.first n file → b ≡ false
    → is_file starts.second m file ≡ true
in_second starts n m file b h hb o = simp (← hb, o) at h

-- a take
module _ (starts : Starts) (n m file d : ℕ) (r : Result (Unit {0}) Refusal) (h : Takeable starts n m file d r) (u : Unit {0}) (z : r ≡ Ok u) where
  pub take_lent_lem : is_lent_file starts n m file ≡ true
  take_lent_lem = (subst (Takeable starts n m file d) z h).0

  pub take-doubleword : d < 32
  take-doubleword = (subst (Takeable starts n m file d) z h).1

  pub take_walkable : Walkable starts n m
  take_walkable = (subst (Takeable starts n m file d) z h).2

-- a report
module _ (starts : Starts) (n m file : ℕ) (r : Result (Unit {0}) Refusal) (h : Reportable starts n m file r) (u : Unit {0}) (z : r ≡ Ok u) where
  pub report-lent : is_lent_file starts n m file ≡ true
  report-lent = (subst (Reportable starts n m file) z h).0

  pub report_walkable : Walkable starts n m
  report_walkable = (subst (Reportable starts n m file) z h).1

-- the bytes of a file that is in either window
pub file_bytes_lem : (starts : Starts) (xs ys : List ℕ) (file : ℕ) → is_lent_file starts (length xs) (length ys) file ≡ true → 512 ≤ length (part_of (lent starts xs ys) file 512)
unfolding is_file
file_bytes_lem starts xs ys file h = go (eqb (file % 512) 0) (inside starts.first (length xs) file 512) (inside starts.second (length ys) file 512) refl refl h
  where
    go : (a p q : Bool) → inside starts.first (length xs) file 512 ≡ p → inside starts.second (length ys) file 512 ≡ q → ((a && p) || (a && q)) ≡ true
        → 512 ≤ length (part_of (lent starts xs ys) file 512)
    go a true q e f t = omega (arith, part-long-first starts xs ys file 512 e)
    go a false true e f t = omega (arith, part-long-second starts xs ys file 512 e f)
    go true false false e f t = absurd (no t)
      where
        no : false ≡ true → ⊥
        no k = let z : ◌≡◌ {A = ℕ} 0 1 = cc in omega arith
    go false false false e f t = absurd (no t)
      where
        no : false ≡ true → ⊥
        no k = let z : ◌≡◌ {A = ℕ} 0 1 = cc in omega arith
