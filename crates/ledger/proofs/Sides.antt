-- Each window by itself: what a store or a take of a file leaves of it. Assumes nothing.
use Prim.Native.Nat.{ℕ, ◌+◌}
use mathlib.Core.Bool.{Bool, true, false, not, ◌||◌}
use mathlib.Core.List.{List}
use mathlib.Core.Path.{◌≡◌, refl, sym, ap, ◌∙◌}
use native.Mathlib.Omega.{arith}
use borrow.Author.Tests.{lt-ltb, ne_eqb}
use lib.ListN.{length}
use Rattle.memory.specs.Choice.{pick}
use Rattle.memory.specs.Window.{Lent}
use Rattle.memory.proofs.Truth.{true-false}
use Rattle.interrupt_file.specs.File.{pending_of, taken_of}
use Rattle.interrupt_file.proofs.Files.{file-at}
use Rattle.iommu_refusals.specs.Refusals.{overlap, is_lent_file}
use Rattle.iommu_files.specs.Files.{changed_at, pending_at, answered_at}
use Rattle.ledger.specs.Places.{Side, first_window, second_window, window_of, lies_in}
use Rattle.ledger.proofs.Answering.{starts, xs, ys, Apart}

-- a file that lies in both windows is where they overlap
pub both-overlap : (l : Lent) (file : ℕ) → lies_in l.first file ≡ true → lies_in l.second file ≡ true → Apart l → ⊥
unfolding overlap
both-overlap l file h k e =
    let f = file-at h in
    let g = file-at k in
    let a : length l.first.bytes ≡ 0 → ⊥ = (λ z. omega (arith, f.after, f.within)) in
    let b : length l.second.bytes ≡ 0 → ⊥ = (λ z. omega (arith, g.after, g.within)) in
    true-false
    (simp (
      ne_eqb (length l.first.bytes) 0 a,
      ne_eqb (length l.second.bytes) 0 b,
      lt-ltb l.first.start (l.second.start + length l.second.bytes) (omega (arith, f.after, g.within)),
      lt-ltb l.second.start (l.first.start + length l.first.bytes) (omega (arith, g.after, f.within)),
    ) at e)

-- a file that lies in one of two windows that are apart
module _ (l : Lent) (f : ℕ) (apart : Apart l) (held : is_lent_file (starts l) (length (xs l)) (length (ys l)) f ≡ true) where
  one_of : (a b : Bool) → lies_in l.first f ≡ a → lies_in l.second f ≡ b → (a || b) ≡ true → a ≡ not b
  one_of true true p q h = absurd (both-overlap l f p q apart)
  one_of true false p q h = refl
  one_of false true p q h = refl
  one_of false false p q h = absurd (true-false (sym h))

  first-is : lies_in l.first f ≡ not (lies_in l.second f)
  first-is = one_of (lies_in l.first f) (lies_in l.second f) refl refl held

  flip : (b : Bool) (u v : List ℕ) → pick (not b) u v ≡ pick b v u
  flip true u v = refl
  flip false u v = refl

  -- a change in it: each window changes exactly where the file lies in it
  pub side-changed : (change : ℕ → List ℕ → List ℕ) (s : Side)
      → (window_of (changed_at (starts l) (xs l) (ys l) f change) s).bytes
      ≡ pick (lies_in (window_of l s) f) (change (window_of l s).start (window_of l s).bytes) (window_of l s).bytes
  side-changed change first_window = refl
  side-changed change second_window =
      ap (λ (b : Bool). pick b (ys l) (change l.second.start (ys l))) first-is ∙ flip (lies_in l.second f) (ys l) (change l.second.start (ys l))

  -- its pending bit and its answered bits, by the window in which it lies
  pub side-pending : (i : ℕ) (s : Side) → lies_in (window_of l s) f ≡ true → pending_at (starts l) (xs l) (ys l) f i ≡ pending_of (window_of l s).start (window_of l s).bytes f i
  side-pending i first_window h = simp h
  side-pending i second_window h = let o : lies_in l.first f ≡ false = first-is ∙ ap not h in simp o

  pub side-answered : (d mask : ℕ) (s : Side) → lies_in (window_of l s) f ≡ true
      → answered_at (starts l) (xs l) (ys l) f d mask ≡ taken_of (window_of l s).start (window_of l s).bytes f d mask
  side-answered d mask first_window h = simp h
  side-answered d mask second_window h = let o : lies_in l.first f ≡ false = first-is ∙ ap not h in simp o
