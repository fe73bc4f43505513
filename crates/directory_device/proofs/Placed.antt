-- Where a device context that was found lies. Assumes nothing.
use Rattle.std.specs.Prelude.{Err, Ok}
use Prim.Native.Nat.{ℕ, zero, suc, ◌+◌, ◌-◌, ◌*◌, ◌%◌}
use mathlib.Core.Bool.{Bool, true, false}
use mathlib.Core.Path.{◌≡◌, refl, sym, subst}
use native.Mathlib.Omega.{arith}
use Rattle.memory.specs.Choice.{pick}
use Rattle.memory.specs.Bits.{bit}
use Rattle.memory.specs.Load.{Load}
use Rattle.memory.specs.Walk.{run}
use Rattle.memory.proofs.Walks.{Read, run_bind, run-pick, run-load}
use Rattle.paging.specs.Stages.{direct}
use Rattle.paging_entry.specs.Purpose.{Translation}
use Rattle.directory_entry.specs.declared.Tree.TheVariants.{Device}
use Rattle.directory_entry.specs.Entries.{misconfigured, directory_index, pointer_of}
use Rattle.directory_walk.specs.Pointers.{on_pointed, leaf_place}
use Rattle.directory_context.specs.declared.DeviceContext.{DeviceContext}
use Rattle.directory_context.specs.Device.{device_misconfigured, decoded_of}
use Rattle.directory_device.specs.Found.{DeviceFound}
use Rattle.directory_device.specs.Device.{checked_device, device_context_at, on_device_place, device_context_of}
use Rattle.directory_device.proofs.Device.{next-page}

-- a context is at a multiple of 64, and was read
abbrev pub ContextPlaced : (ℕ → Load) → DeviceFound → Type 0
ContextPlaced m (Ok c) = (c.address % 64 ≡ 0) × Read m c.address
ContextPlaced m (Err f) = Unit {0}

abbrev LeafPlaced : Translation → Type 0
LeafPlaced (Ok a) = a % 64 ≡ 0
LeafPlaced (Err f) = Unit {0}

module _ (m : ℕ → Load) where
  leaf-placed : (d i table : ℕ) → table % 4096 ≡ 0 → LeafPlaced (run m (leaf_place Device d direct i table))
  unfolding leaf_place
  leaf-placed d zero table h = omega arith
  leaf-placed d (suc i) table h = go (pointer_of Device v) refl (leaf-placed d i)
    where
      v : Load
      v = m (table + 8 * directory_index Device d (suc i))

      go : (t : Translation) → pointer_of Device v ≡ t → ((k : ℕ) → k % 4096 ≡ 0 → LeafPlaced (run m (leaf_place Device d direct i k)))
          → LeafPlaced (run m (on_pointed (leaf_place Device d direct i) t))
      go (Ok k) e next = next k (next-page Device v (Ok k) k (sym e) refl)
      go (Err f) e next = tt

  module _ (a : ℕ) (aligned : a % 64 ≡ 0) where
    checked_placed : (c : DeviceContext) → Read m a → ContextPlaced m (checked_device a c)
    checked_placed c read = go (device_misconfigured c)
      where
        go : (b : Bool) → ContextPlaced m (pick b (Err (misconfigured Device)) (Ok (decoded_of a c)))
        go true = tt
        go false = (aligned, read)

    -- its eight doublewords, one after another
    abbrev P : DeviceFound → Type 0
    P = ContextPlaced m

    context-placed : ContextPlaced m (run m (device_context_at a))
    unfolding device_context_at
    context-placed =
        run-load m P _ a _ tt
        (λ tc h.
        run-pick m P (bit tc 0) _ _
        (run-load m P _ (a + 8) _ tt
        (λ g _.
        run-load m P _ (a + 16) _ tt
        (λ t _.
        run-load m P _ (a + 24) _ tt
        (λ f _.
        run-load m P _ (a + 32) _ tt
        (λ p _. run-load m P _ (a + 40) _ tt (λ k _. run-load m P _ (a + 48) _ tt (λ n _. run-load m P _ (a + 56) _ tt (λ z _. checked_placed _ (tc, h)))))))))
        tt)

  pub device-placed : (levels root d : ℕ) → ContextPlaced m (run m (device_context_of levels root d))
  unfolding device_context_of
  device-placed levels root d =
      subst (ContextPlaced m) (sym (run_bind m (leaf_place Device d direct (levels - 1) (root * 4096)) on_device_place))
      (go (run m (leaf_place Device d direct (levels - 1) (root * 4096))) (leaf-placed d (levels - 1) (root * 4096) (omega arith)))
    where
      go : (t : Translation) → LeafPlaced t → ContextPlaced m (run m (on_device_place t))
      go (Ok a) h = context-placed a h
      go (Err f) h = tt
