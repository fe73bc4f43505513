-- A run of the domain's C functions on one lent state: what their promises say of each call.
use Rattle.std.specs.Prelude.{ℕ, ◌≤◌, false, not, List, [], ◌∷◌, ◌≡◌, eqb, get_or, length, set, Option, Some, None}
use Rattle.memory.specs.Choice.{pick}
use Rattle.word.specs.Word.{digit}
use Rattle.hart.specs.Hart.{hart_refusal}
use Rattle.aplic_calls.specs.declared.Msi.{Msi}
use Rattle.aplic_calls.specs.declared.Call.{Call}
use Rattle.aplic_calls.specs.declared.Call.TheVariants.{Wire, Write, Read, Forward, Claim, Signal}
use Rattle.aplic_calls.specs.Direct.{claimed, claim_value, signalled}
use Rattle.aplic_calls.specs.Calls.{wire_table, wire_refusal, write_table, read_table, after_read, forward_table, sent_of}
use Rattle.aplic_calls.specs.Run.{Answer, refusal, done, value, sent, took, asserted}
use Rattle.aplic_words.specs.State.{table_in}
use Rattle.capi_room.specs.Room.{status}
use Rattle.capi_aplic.specs.Wired.{domain_status, room_status, under_status, with_sent}

-- what four words say was forwarded
abbrev pub sent_in : List ℕ → Option Msi
sent_in out = pick (eqb (get_or out 0 0) 0) None (Some (record { hart = get_or out 1 0; guest = get_or out 2 0; identity = get_or out 3 0 }))

-- one call on the words `state`, with room enough in `out`: its answer, and the words that it leaves. Each line has the promises of one function
pub data Called (state : List ℕ) : Call → Answer → List ℕ → Type 0 where
  yasmurekh_aplic_wire : (source level r : ℕ) (left : List ℕ)
      → r ≡ domain_status state (wire_refusal source) → table_in left ≡ under_status r (table_in state) (wire_table source (not (eqb level 0)) (table_in state))
      → Called state (Wire source (not (eqb level 0))) (refusal r) left
  yasmurekh_aplic_write : (offset v r : ℕ) (left : List ℕ)
      → r ≡ domain_status state 0 → table_in left ≡ under_status r (table_in state) (write_table offset v (table_in state))
      → Called state (Write offset v) done left
  yasmurekh_aplic_read : (offset r : ℕ) (out told left : List ℕ) → 1 ≤ length out
      → r ≡ domain_status state (status 1 out) → told ≡ under_status r out (set out 0 (read_table offset (table_in state))) → table_in left ≡ under_status r (table_in state) (after_read offset (table_in state))
      → Called state (Read offset) (value (get_or told 0 0)) left
  yasmurekh_aplic_forward : (r : ℕ) (out told left : List ℕ) → 4 ≤ length out
      → r ≡ domain_status state (status 4 out) → told ≡ under_status r out (with_sent out (sent_of (table_in state))) → table_in left ≡ under_status r (table_in state) (forward_table (table_in state))
      → Called state Forward (sent (sent_in told)) left
  yasmurekh_aplic_claim : (hart r : ℕ) (out told left : List ℕ) → 1 ≤ length out
      → r ≡ domain_status state (room_status 1 out (hart_refusal hart)) → told ≡ under_status r out (set out 0 (claim_value hart (table_in state))) → table_in left ≡ under_status r (table_in state) (claimed hart (table_in state))
      → Called state (Claim hart) (took r (under_status r 0 (get_or told 0 0))) left
  yasmurekh_aplic_signal : (hart r : ℕ) (out told left : List ℕ) → 1 ≤ length out
      → r ≡ domain_status state (room_status 1 out (hart_refusal hart)) → told ≡ under_status r out (set out 0 (digit (signalled hart (table_in state)))) → left ≡ state
      → Called state (Signal hart) (asserted r (under_status r false (not (eqb (get_or told 0 0) 0)))) left

-- calls one after the other, each on the words that the one before left
pub data Calls : List ℕ → List Call → List Answer → List ℕ → Type 0 where
  end : {state : List ℕ} → Calls state [] [] state
  next : {state left z : List ℕ} {c : Call} {a : Answer} {cs : List Call} {xs : List Answer} → 87 ≤ length state → Called state c a left → Calls left cs xs z → Calls state (c ∷ cs) (a ∷ xs) z
