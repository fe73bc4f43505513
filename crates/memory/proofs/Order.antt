-- Two windows of which no doubleword is in both are the same memory in either order. Assumes nothing.
use Rattle.std.proofs.Common.{◌≡◌, ℕ, Bool, true, false, List, length, refl}
use mathlib.Core.Path.{fun_ext}
use Rattle.memory.specs.Choice.{pick}
use Rattle.memory.specs.Window.{inside, window_at, lent, load_in, memory}
use Rattle.memory.specs.Code.{Disjoint, Walkable, turned_starts}
use Rattle.memory.specs.declared.Starts.{Starts}
use Rattle.memory.specs.Load.{Load}
use Rattle.std.specs.Prelude.{None}

either_order : (p q : Bool) (x y z : Load) → (p ≡ true → q ≡ true → ⊥) → pick q y (pick p x z) ≡ pick p x (pick q y z)
either_order true true x y z h = absurd (h refl refl)
either_order true false x y z h = refl
either_order false q x y z h = refl

pub turned_walkable : (starts : Starts) (n m : ℕ) → Walkable starts n m → Walkable (turned_starts starts) m n
turned_walkable starts n m w =
    record {
      paged = (w.paged.2, w.paged.3, w.paged.0, w.paged.1);
      first_end = w.second_end;
      second_end = w.first_end;
      apart = λ a h k. w.apart a k h;
    }

module _ (starts : Starts) (xs ys : List ℕ) where
  pub turned-memory : Disjoint starts (length xs) (length ys) → memory (lent (turned_starts starts) ys xs) ≡ memory (lent starts xs ys)
  unfolding memory
  turned-memory d = fun_ext (λ a. either_order (inside starts.first (length xs) a 8) (inside starts.second (length ys) a 8) _ _ None (d a))

-- what a memory of two windows has of each
module _ (starts : Starts) (xs ys : List ℕ) where
  pub first_load : (a : ℕ) → inside starts.first (length xs) a 8 ≡ true → memory (lent starts xs ys) a ≡ load_in (window_at starts.first xs) a None
  unfolding memory
  first_load a h = simp h

  pub no-load : (a : ℕ) → inside starts.first (length xs) a 8 ≡ false → inside starts.second (length ys) a 8 ≡ false → memory (lent starts xs ys) a ≡ None
  unfolding memory
  no-load a h k = simp (h, k)
