-- A context in what is lent, over plain values. Assumes nothing.
use Rattle.std.specs.Prelude.{Err, None, Ok, Some}
use Prim.Native.Nat.{ℕ, ◌+◌, ◌-◌, ◌*◌, ◌/◌, ◌%◌, ◌<◌, ◌≤◌, ◌^◌}
use mathlib.Core.Bool.{Bool, true, false, not}
use mathlib.Core.List.{List, [], ◌∷◌}
use mathlib.Core.Path.{◌≡◌, refl, sym, ap, subst, ◌∙◌}
use native.Mathlib.Nat.{add-zero}
use native.Mathlib.Omega.{arith}
use lib.ListN.{length}
use Rattle.memory.specs.Choice.{pick, any}
use Rattle.memory.specs.Bits.{bit, bits, any_set}
use Rattle.memory.specs.Load.{Load}
use Rattle.memory.specs.Walk.{Walk, done, on_value, load_or, run}
use Rattle.memory.specs.declared.Starts.{Starts}
use Rattle.memory.specs.Window.{Lent, doubleword, part_of, memory}
use Rattle.memory.specs.Code.{Paged, Sound}
use Rattle.memory.proofs.Choices.{yes-by, no-by}
use Rattle.memory.proofs.Pages.{paged-word, paged-none}
use Rattle.memory.proofs.Walks.{then, loads, at}
use Rattle.causes.specs.declared.FaultInfo.{FaultInfo}
use Rattle.paging.specs.Stages.{direct}
use Rattle.paging_entry.specs.Purpose.{Translation}
use Rattle.directory_entry.specs.declared.Tree.{Tree}
use Rattle.directory_entry.specs.declared.Tree.TheVariants.{Device}
use Rattle.directory_entry.specs.Entries.{load_fault, invalid, misconfigured, directory_index, pointer_of, leaf_size}
use Rattle.directory_entry.proofs.Entries.{context-unread, context-invalid, context-valid, found_below}
use Rattle.directory_walk.specs.Pointers.{leaf_place}
use Rattle.directory_walk.proofs.Pointers.{pointers_end, pointers_stop, pointers_go}
use Rattle.directory_context.specs.declared.DeviceContext.{DeviceContext}
use Rattle.directory_context.specs.declared.DecodedContext.{DecodedContext}
use Rattle.directory_context.specs.Device.{device_misconfigured, decoded_of}
use Rattle.directory_device.specs.Found.{DeviceFound}
use Rattle.directory_device.specs.Code.{Placed}
use Rattle.directory_device.specs.Device.{checked_device, device_word, device_context_at, on_device_place, device_context_of}

-- by the checks
module _ (a : ℕ) (c : DeviceContext) (q : Bool) (hq : q ≡ device_misconfigured c) where
  pub device-wrong : (f : FaultInfo) → q ≡ true → f ≡ misconfigured Device → Err f ≡ checked_device a c
  device-wrong f r h = yes-by (device_misconfigured c) q (Err f) (Err (misconfigured Device)) (Ok (decoded_of a c)) hq r (ap Err h)

  pub device-right : (d : DecodedContext) → q ≡ false → d ≡ decoded_of a c → Ok d ≡ checked_device a c
  device-right d r h = no-by (device_misconfigured c) q (Ok d) (Err (misconfigured Device)) (Ok (decoded_of a c)) hq r (ap Ok h)

pub ruleset device_checked_ways = (device-wrong, device-right)

-- what is read after tc, as the definition has it: each step loads one doubleword more
module _ (a tc : ℕ) where
  abbrev read7 : ℕ → ℕ → ℕ → ℕ → ℕ → ℕ → ℕ → Walk DeviceFound
  read7 iohgatp ta fsc msiptp mask pattern reserved =
      done
      (checked_device a
      (record { tc = tc; iohgatp = iohgatp; ta = ta; fsc = fsc; msiptp = msiptp; mask = mask; pattern = pattern; reserved = reserved }))

  abbrev read6 : ℕ → ℕ → ℕ → ℕ → ℕ → ℕ → Walk DeviceFound
  read6 g t f p k n = device_word (a + 56) (read7 g t f p k n)

  abbrev read5 : ℕ → ℕ → ℕ → ℕ → ℕ → Walk DeviceFound
  read5 g t f p k = device_word (a + 48) (read6 g t f p k)

  abbrev read4 : ℕ → ℕ → ℕ → ℕ → Walk DeviceFound
  read4 g t f p = device_word (a + 40) (read5 g t f p)

  abbrev read3 : ℕ → ℕ → ℕ → Walk DeviceFound
  read3 g t f = device_word (a + 32) (read4 g t f)

  abbrev read2 : ℕ → ℕ → Walk DeviceFound
  read2 g t = device_word (a + 24) (read3 g t)

  abbrev read1 : ℕ → Walk DeviceFound
  read1 g = device_word (a + 16) (read2 g)

  abbrev rest : Walk DeviceFound
  rest = device_word (a + 8) read1

abbrev unread : DeviceFound
unread = Err (load_fault Device)

-- the ways out of reading a context
module _ (m : ℕ → Load) (a : ℕ) (v : Load) (hv : v ≡ m a) where
  pub device-unread : (f : FaultInfo) → v ≡ None → f ≡ load_fault Device → Err f ≡ run m (device_context_at a)
  unfolding device_context_at
  device-unread f e h = context-unread m Device Err a (rest a) v hv e (ap Err h)

  module _ (tc : ℕ) (ev : v ≡ Some tc) (b : Bool) (hb : b ≡ bit tc 0) where
    pub device-invalid : (f : FaultInfo) → not b ≡ true → f ≡ invalid Device → Err f ≡ run m (device_context_at a)
    unfolding device_context_at
    device-invalid f t h = context-invalid m Device Err a (rest a) v hv tc ev b hb t (ap Err h)

    valid : {x : DeviceFound} → not b ≡ false → x ≡ run m (rest a tc) → x ≡ run m (device_context_at a)
    unfolding device_context_at
    valid t h = context-valid m Device Err a (rest a) v hv tc ev b hb t h

-- a context by the bytes of its entry, in windows of whole pages
module _ (l : Lent) (paged : Paged (record { first = l.first.start; second = l.second.start }) (length l.first.bytes) (length l.second.bytes)) (a : ℕ) (aligned : a % 64 ≡ 0)
    (e : List ℕ) (he : e ≡ part_of l a 64) where
  abbrev m : ℕ → Load
  m = memory l

  abbrev starts : Starts
  starts = record { first = l.first.start; second = l.second.start }

  at-multiple : a ≡ 64 * (a / 64)
  at-multiple = omega arith

  pub entry-unread : (f : FaultInfo) → length e < 64 → f ≡ load_fault Device → Err f ≡ run m (device_context_at a)
  entry-unread f short h =
      device-unread m a None
      (paged-none starts l.first.bytes l.second.bytes paged 64 64 refl a (a / 64) 0 at-multiple (omega arith) (subst (λ (x : List ℕ). length x < 64) he short) ∙ ap m (add-zero a))
      f refl h

  module _ (long : 64 ≤ length e) where
    word : (k : ℕ) → k ≤ 56 → Some (doubleword e k) ≡ m (a + k)
    word k small =
        ap (λ x. Some (doubleword x k)) he
        ∙ paged-word starts l.first.bytes l.second.bytes paged 64 64 refl a (a / 64) k at-multiple (omega arith) (subst (λ (x : List ℕ). 64 ≤ length x) he long)

    module _ (tc : ℕ) (ht : tc ≡ doubleword e 0) (b : Bool) (hb : b ≡ bit tc 0) where
      head : Some tc ≡ m a
      head = ap Some ht ∙ word 0 (omega arith) ∙ ap m (add-zero a)

      pub entry-invalid : (f : FaultInfo) → not b ≡ true → f ≡ invalid Device → Err f ≡ run m (device_context_at a)
      entry-invalid f t h = device-invalid m a (Some tc) head tc refl b hb f t h

      -- one doubleword more is read
      next : (k : ℕ) → k ≤ 56 → (f : ℕ → Walk DeviceFound) {x : DeviceFound} → x ≡ run m (f (doubleword e k)) → x ≡ run m (load_or (done unread) (a + k) f)
      next k small f h = loads m (a + k) (on_value (done unread) f) (word k small) h

      pub entry_read : (c : DeviceContext) (x : DeviceFound) → not b ≡ false
          → c ≡ record { tc = tc; iohgatp = doubleword e 8; ta = doubleword e 16; fsc = doubleword e 24; msiptp = doubleword e 32; mask = doubleword e 40; pattern = doubleword e 48; reserved = doubleword e 56 }
          → x ≡ checked_device a c → x ≡ run m (device_context_at a)
      entry_read c x t hc h =
          valid m a (Some tc) head tc refl b hb t
          (next 8 (omega arith) (read1 a tc)
          (next 16 (omega arith) (read2 a tc (doubleword e 8))
          (next 24 (omega arith) (read3 a tc (doubleword e 8) (doubleword e 16))
          (next 32 (omega arith) (read4 a tc (doubleword e 8) (doubleword e 16) (doubleword e 24))
          (next 40 (omega arith) (read5 a tc (doubleword e 8) (doubleword e 16) (doubleword e 24) (doubleword e 32))
          (next 48 (omega arith) (read6 a tc (doubleword e 8) (doubleword e 16) (doubleword e 24) (doubleword e 32) (doubleword e 40))
          (next 56 (omega arith) (read7 a tc (doubleword e 8) (doubleword e 16) (doubleword e 24) (doubleword e 32) (doubleword e 40) (doubleword e 48)) (h ∙ ap (checked_device a) hc))))))))

-- where a walk may go, windows are whole pages
pub sound_paged : (l : Lent) → Sound l → Paged (record { first = l.first.start; second = l.second.start }) (length l.first.bytes) (length l.second.bytes)
sound_paged l sound = sound.paged

pub ruleset device_context_ways = (entry-unread, entry-invalid, entry_read, sound_paged)

-- a turn of the walk to where the context lies, with left - 1 levels above it: i is the index there, w the whole walk's answer
module _ (m : ℕ → Load) (d left table i : ℕ) (w : Translation)
    (hw : run m (leaf_place Device d direct (left - 1) table) ≡ w) where
  pub walk_ends : left ≤ 1 → (k : ℕ) → i ≡ directory_index Device d 0 → k ≡ leaf_size Device * i → Ok (table + k) ≡ w
  walk_ends p k hi hk = pointers_end m Device d direct left table i (Ok (table + k)) w hw p k hi hk refl

  module _ (p : 1 < left) (hi : i ≡ directory_index Device d (left - 1)) (v : Load) (y : Translation)
      (hv : v ≡ m (table + 8 * i)) (hy : y ≡ pointer_of Device v) where
    pub walk_stops : (f : FaultInfo) → y ≡ Err f → Err f ≡ w
    walk_stops f e = pointers_stop m Device d direct left table i (Ok (table + 8 * i)) w hw p hi refl (table + 8 * i) v y refl hv hy f e

    pub walk_goes : (k : ℕ) → y ≡ Ok k → run m (leaf_place Device d direct (left - 1 - 1) k) ≡ w
    walk_goes k e = pointers_go m Device d direct left table i (Ok (table + 8 * i)) w hw p hi refl (table + 8 * i) v y refl hv hy k e

-- a context lies on 64 bytes, below 2^60
pub leaf-placed : (table i k : ℕ) → table < 2 ^ 56 → table % 4096 ≡ 0 → k < 2 ^ 15 → k ≡ leaf_size Device * i → (table + k < 2 ^ 60) × ((table + k) % 64 ≡ 0)
leaf-placed table i k h p l e = (omega arith, omega arith)

-- the next table is a page
pub next-page : (t : Tree) (v : Load) (y : Translation) (k : ℕ) → y ≡ pointer_of t v → y ≡ Ok k → k % 4096 ≡ 0
unfolding pointer_of
next-page t v y k hy e = go v (sym hy ∙ e)
  where
    other : (f : FaultInfo) → Err f ≡ Ok k → k % 4096 ≡ 0
    other f p = let z : ◌≡◌ {A = ℕ} 0 1 = cc in absurd (omega arith)

    valid-entry : (x : ℕ) (p q : Bool) → pick p (pick q (Err (misconfigured t)) (Ok (x * 4096))) (Err (invalid t)) ≡ Ok k → k % 4096 ≡ 0
    valid-entry x true true h = other _ h
    valid-entry x true false h = let z : x * 4096 ≡ k = cc in omega arith
    valid-entry x false q h = other _ h

    go : (u : Load) → pointer_of t u ≡ Ok k → k % 4096 ≡ 0
    go None h = other _ h
    go (Some x) h = valid-entry (bits x 53 10) (bit x 0) (any (any_set x 9 1 ∷ any_set x 63 54 ∷ [])) h

module _ (r : Translation) (a : ℕ) (e : r ≡ Ok a) (h : Placed r) where
  pub found-low : a < 2 ^ 60
  found-low = (subst Placed e h).0

  pub found-aligned : a % 64 ≡ 0
  found-aligned = (subst Placed e h).1

pub ruleset device_place_ways = (walk_ends, walk_stops, walk_goes, leaf-placed, next-page, found_below)

-- the context of a device, by where it lies
module _ (m : ℕ → Load) (levels root d : ℕ) (y : Translation)
    (hy : y ≡ run m (leaf_place Device d direct (levels - 1) (root * 4096))) where
  pub device_unfound : (f : FaultInfo) → y ≡ Err f → Err f ≡ run m (device_context_of levels root d)
  unfolding device_context_of
  device_unfound f e = then m (leaf_place Device d direct (levels - 1) (root * 4096)) on_device_place hy (at m on_device_place e refl)

  pub device-found : (a : ℕ) (z : DeviceFound) → y ≡ Ok a → z ≡ run m (device_context_at a) → z ≡ run m (device_context_of levels root d)
  unfolding device_context_of
  device-found a z e h = then m (leaf_place Device d direct (levels - 1) (root * 4096)) on_device_place hy (at m on_device_place e h)

pub ruleset device_ways = (device_unfound, device-found, found-low, found-aligned)
