-- The words of a queue and of a read-out, by the stores that the code makes. Assumes nothing.
use Prim.Native.Nat.{ℕ, ◌≤◌}
use mathlib.Core.List.{List}
use mathlib.Core.Path.{◌≡◌, ap, ◌∙◌}
use lib.ListN.{length}
use Rattle.capi_room.specs.Room.{fitting, fitting_both}
use Rattle.capi_room.proofs.Rooms.{long-changed, both_long, out-short, state-short, short-told, long-told, short-kept}
use Rattle.fault_queue.specs.declared.QueueState.{QueueState}
use Rattle.fault_queue.specs.declared.FaultRecord.{FaultRecord}
use Rattle.refusal.specs.declared.Refusal.{Refusal}
use Rattle.std.specs.Prelude.{Option, Result}
use Rattle.fault_queue.specs.Queue.{queue_of, read_out_of, after_read_out, cleared}
use Rattle.capi_queue.specs.Words.{state_in, with_state, with_read_out}

-- the calls: ws and zs are the words of `out` and `state` after them
module _ (bs out state ws zs : List ℕ) (q : QueueState) (hq : q ≡ state_in state) (h : 6 ≤ length out) (k : 3 ≤ length state) where
  pub read-words : (r : Result (Option FaultRecord) Refusal) → r ≡ read_out_of (queue_of bs q) → ws ≡ with_read_out out r
      → ws ≡ fitting_both 6 out 3 state out (with_read_out out (read_out_of (queue_of bs (state_in state))))
  read-words r e p = both_long 6 out 3 state _ _ ws h k (p ∙ ap (with_read_out out) (e ∙ ap (λ (x : QueueState). read_out_of (queue_of bs x)) hq))

  pub read-state : (t : QueueState) → t ≡ (after_read_out (queue_of bs q)).state → zs ≡ with_state state t
      → zs ≡ fitting_both 6 out 3 state state (with_state state (after_read_out (queue_of bs (state_in state))).state)
  read-state t e p = both_long 6 out 3 state _ _ zs h k (p ∙ ap (with_state state) (e ∙ ap (λ (x : QueueState). (after_read_out (queue_of bs x)).state) hq))

pub clear-state : (state zs : List ℕ) (q t : QueueState) → q ≡ state_in state → t ≡ cleared q → 3 ≤ length state → zs ≡ with_state state t
    → zs ≡ fitting 3 state state (with_state state (cleared (state_in state)))
clear-state state zs q t hq ht k p = long-changed 3 state _ _ zs k (p ∙ ap (with_state state) (ht ∙ ap cleared hq))

pub ruleset read_ways = (out-short, state-short, both_long, read-words, read-state)

pub ruleset clear_ways = (short-told, long-told, short-kept, clear-state)
