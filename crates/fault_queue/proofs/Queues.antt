-- Where a queue stands, and what the code's tests say of it. Assumes nothing.
use Prim.Native.Nat.{ℕ, ◌+◌, ◌-◌, ◌*◌, ◌/◌, ◌≤◌, ◌<◌}
use mathlib.Core.Bool.{Bool, true, false, not, ◌||◌}
use mathlib.Core.List.{List}
use mathlib.Core.Path.{◌≡◌, refl, sym, ap, ◌∙◌}
use native.Mathlib.Omega.{arith}
use borrow.Author.Tests.{eq-eqb, ne_eqb, leb-false}
use borrow.Rule.Slice.PartMut.{put_mid}
use lib.Dec.{leb}
use lib.ListN.{length}
use Rattle.memory.proofs.Truth.{true-false}
use Rattle.fault_queue.specs.declared.QueueState.{QueueState}
use Rattle.fault_queue.specs.declared.FaultRecord.{FaultRecord}
use Rattle.refusal.specs.declared.Refusal.{Refusal}
use Rattle.refusal.specs.declared.Refusal.TheVariants.{BadQueue}
use Rattle.std.specs.Prelude.{Option, Some, None, Result, Ok, Err}
use Rattle.fault_queue.specs.Queue.{queue_of, legal_length, bad_queue, following, is_full, record_bytes, record_at, drops, overflowed, moved_by, filed, read_out_of, after_read_out}
use Rattle.fault_queue.proofs.Records.{slot_put}

neither : (a b : Bool) → (a || b) ≡ false → (a ≡ false) × (b ≡ false)
neither false b e = (refl, e)
neither true b e = absurd (true-false e)

-- a queue that isn't refused has its head and its tail in it
module _ (len : ℕ) (q : QueueState) (good : bad_queue len q ≡ false) where
  apart : (leb (len / 32) q.head ≡ false) × (leb (len / 32) q.tail ≡ false)
  unfolding bad_queue
  apart = neither (leb (len / 32) q.head) (leb (len / 32) q.tail) (neither (not (legal_length len)) _ good).1

  pub head-below : q.head < len / 32
  head-below = leb-false (len / 32) q.head apart.0

  pub tail-below : q.tail < len / 32
  tail-below = leb-false (len / 32) q.tail apart.1

  -- so the slots there are whole in its bytes
  pub head-whole : 32 * q.head + 32 ≤ len
  head-whole = let h = head-below in omega arith

  pub tail-whole : 32 * q.tail + 32 ≤ len
  tail-whole = let h = tail-below in omega arith

-- a new record
module _ (xs : List ℕ) (q : QueueState) (r : FaultRecord) (f : Bool) (hf : f ≡ is_full (length xs / 32) q) where
  module _ (e : (q.overflow || f) ≡ true) where
    dropped : drops (queue_of xs q) ≡ true
    dropped = rw (← hf) e

    pub drop-state : overflowed q ≡ (filed (queue_of xs q) r).state
    unfolding filed
    drop-state = rw dropped

    pub drop-bytes : xs ≡ (filed (queue_of xs q) r).bytes
    unfolding filed
    drop-bytes = rw dropped

  module _ (good : bad_queue (length xs) q ≡ false) (e : (q.overflow || f) ≡ false) where
    kept : drops (queue_of xs q) ≡ false
    kept = rw (← hf) e

    pub keep-state : (next : ℕ) → next ≡ following (length xs / 32) q.tail
        → record { head = q.head; tail = next; overflow = q.overflow } ≡ (filed (queue_of xs q) r).state
    unfolding filed
    keep-state next n = rw (kept, n)

    pub keep-bytes : (ys : List ℕ) → ys ≡ record_bytes r → put_mid (32 * q.tail) (32 * q.tail + 32 - 32 * q.tail) xs ys ≡ (filed (queue_of xs q) r).bytes
    unfolding filed
    keep-bytes ys y = rw kept (slot_put xs q.tail r ys y)

pub ruleset put_ways = (head-below, tail-below, tail-whole, drop-state, drop-bytes, keep-state, keep-bytes)

-- a read-out
module _ (xs : List ℕ) (q : QueueState) (b : Bool) (hb : b ≡ bad_queue (length xs) q) where
  by_read : (s : QueueState) (o : Result (Option FaultRecord) Refusal) → o ≡ read_out_of (queue_of xs q) → s ≡ (moved_by o (queue_of xs q)).state → s ≡ (after_read_out (queue_of xs q)).state
  unfolding after_read_out
  by_read s o e m = m ∙ ap (λ o. (moved_by o (queue_of xs q)).state) e

  module _ (e : b ≡ true) where
    pub refused-read : Err BadQueue ≡ read_out_of (queue_of xs q)
    unfolding read_out_of
    refused-read = rw (← hb, e)

    pub refused-state : q ≡ (after_read_out (queue_of xs q)).state
    refused-state = by_read q (Err BadQueue) refused-read refl

  module _ (e : b ≡ false) where
    pub good-read : bad_queue (length xs) q ≡ false
    good-read = sym hb ∙ e

    pub empty_read : q.head ≡ q.tail → Ok None ≡ read_out_of (queue_of xs q)
    unfolding read_out_of
    empty_read t = rw (good-read, eq-eqb q.head q.tail t)

    pub empty_state : q.head ≡ q.tail → q ≡ (after_read_out (queue_of xs q)).state
    empty_state t = by_read q (Ok None) (empty_read t) refl

    pub handed-read : (r : FaultRecord) → (q.head ≡ q.tail → ⊥) → r ≡ record_at xs q.head → Ok (Some r) ≡ read_out_of (queue_of xs q)
    unfolding read_out_of
    handed-read r t h = rw (good-read, ne_eqb q.head q.tail t, h)

    pub handed-state : (next : ℕ) → (q.head ≡ q.tail → ⊥) → next ≡ following (length xs / 32) q.head
        → record { head = next; tail = q.tail; overflow = q.overflow } ≡ (after_read_out (queue_of xs q)).state
    handed-state next t n = by_read _ (Ok (Some (record_at xs q.head))) (handed-read _ t refl) (rw n)

pub ruleset read_ways = (head-below, head-whole, good-read, refused-read, refused-state, empty_read, empty_state, handed-read, handed-state)
