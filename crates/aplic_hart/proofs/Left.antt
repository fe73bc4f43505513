-- The numbers that are left after one is taken. Assumes nothing.
use Prim.Native.Nat.{ℕ, ◌-◌, ◌<◌}
use mathlib.Core.Path.{◌≡◌, ap, ◌∙◌}
use native.Mathlib.Omega.{arith}
use lib.Bits.{bit_and}
use Rattle.word.specs.Word.{contains, lowest}
use Rattle.word.proofs.Bits.{some-bit, lowest-found, clear_less}

pub some_left : (left i : ℕ) → i ≡ lowest 63 1 (contains left) → i < 64 → 0 < left
some_left left i e l = some-bit i left (ap (contains left) e ∙ lowest-found 63 1 (contains left) (omega (arith, e)))

pub less_left : (left i rest : ℕ) → i ≡ lowest 63 1 (contains left) → i < 64 → rest ≡ bit_and left (left - 1) → rest < left
less_left left i rest e l q = omega (arith, q, clear_less left (some_left left i e l))
