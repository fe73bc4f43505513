-- Where the entry of a recorded message lies, and its file. Assumes nothing.
use Rattle.std.specs.Prelude.{Err, Ok}
use Prim.Native.Nat.{ℕ, ◌+◌, ◌*◌, ◌%◌}
use mathlib.Core.Bool.{Bool, true, false}
use mathlib.Core.Path.{◌≡◌}
use native.Mathlib.Omega.{arith}
use lib.Dec.{eqb}
use Rattle.memory.specs.Choice.{pick}
use Rattle.memory.specs.Bits.{bits, bit}
use Rattle.memory.specs.Load.{Load}
use Rattle.memory.specs.Walk.{run}
use Rattle.memory.proofs.Walks.{Read, run-pick, run-load}
use Rattle.causes.specs.declared.Access.{Access}
use Rattle.causes.specs.declared.Access.TheVariants.{Read as Reading, Write, Execute}
use Rattle.message.specs.declared.Message.{Message}
use Rattle.message.specs.declared.Message.TheVariants.{Redirect, Record}
use Rattle.message.specs.Table.{MessageFound, table_fault, alignment, permitted, translate_reserved, record_reserved, destination_of, redirected, on_translate, on_notice, on_message_entry, message_entry_at, message_of}

-- a file is at a multiple of 512, and its entry at a multiple of 16, and was read
abbrev pub EntryPlaced : (ℕ → Load) → MessageFound → Type 0
EntryPlaced m (Ok (Record d at)) = (d.file % 512 ≡ 0) × (at % 16 ≡ 0) × Read m at
EntryPlaced m (Ok (Redirect a)) = Unit {0}
EntryPlaced m (Err f) = Unit {0}

permitted-placed : (m : ℕ → Load) (x : Access) (k : Message) → EntryPlaced m (Ok k) → EntryPlaced m (permitted x k)
permitted-placed m Reading k h = h
permitted-placed m Write k h = h
permitted-placed m Execute k h = tt

module _ (m : ℕ → Load) (x : Access) (a : ℕ) where
  redirect_placed : (e : ℕ) → EntryPlaced m (on_translate x a e)
  unfolding on_translate
  redirect_placed e = go (translate_reserved e)
    where
      go : (b : Bool) → EntryPlaced m (pick b (table_fault 263) (permitted x (Redirect (redirected e a))))
      go true = tt
      go false = permitted-placed m x (Redirect (redirected e a)) tt

  module _ (at : ℕ) (aligned : at % 16 ≡ 0) (read : Read m at) where
    notice-placed : (e n : ℕ) → EntryPlaced m (on_notice x at e n)
    unfolding on_notice
    notice-placed e n = go (record_reserved e n)
      where
        go : (b : Bool) → EntryPlaced m (pick b (table_fault 263) (permitted x (Record (destination_of e n) at)))
        go true = tt
        go false = permitted-placed m x (Record (destination_of e n) at) (omega arith, aligned, read)

    entry-placed : (e : ℕ) → EntryPlaced m (run m (on_message_entry x a at e))
    unfolding on_message_entry
    entry-placed e =
        run-pick m (EntryPlaced m) (bit e 0) _ _
        (run-pick m (EntryPlaced m) (bit e 63) _ _ tt
        (run-pick m (EntryPlaced m) (eqb (bits e 2 1) 3) _ _ (redirect_placed e)
        (run-pick m (EntryPlaced m) (eqb (bits e 2 1) 1) _ _
        (run-load m (EntryPlaced m) _ (at + 8) _ tt (λ n h. notice-placed e n))
        tt)))
        tt

  pub message-placed : (page mask : ℕ) → EntryPlaced m (run m (message_of page mask x a))
  unfolding message_of
  message-placed page mask =
      run-pick m (EntryPlaced m) (eqb (page * 4096 % alignment mask) 0) _ _
      (run-load m (EntryPlaced m) _ (message_entry_at page mask a) _ tt (λ e h. entry-placed (message_entry_at page mask a) (omega arith) (e, h) e))
      tt
