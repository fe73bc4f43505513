-- The fault queue for C: where it stands, in three lent words, and a read-out in six words of a buffer. Nothing of a queue's meaning stands here.
use Rattle.std.specs.Prelude.{ℕ, Bool, true, false, not, List, eqb, get_or, set, Option, Some, None, Result, Ok, Err}
use Rattle.memory.specs.Choice.{pick}
use Rattle.fault_queue.specs.declared.QueueState.{QueueState}
use Rattle.fault_queue.specs.declared.FaultRecord.{FaultRecord}
use Rattle.refusal.specs.declared.Refusal.{Refusal}
use Rattle.refusal.specs.Refusal.{number_of}

-- head, tail and overflow flag, which stands where its word isn't 0
abbrev pub state_in : List ℕ → QueueState
state_in ws = record { head = get_or ws 0 0; tail = get_or ws 1 0; overflow = not (eqb (get_or ws 2 0) 0) }

-- the flag's word: where the flag stood before, its word stays as it is
abbrev pub flag_word : ℕ → Bool → ℕ
flag_word w false = 0
flag_word w true = pick (eqb w 0) 1 w

-- the words after a call
abbrev pub with_state : List ℕ → QueueState → List ℕ
with_state ws q = set (set (set ws 0 q.head) 1 q.tail) 2 (flag_word (get_or ws 2 0) q.overflow)

abbrev pub with_six : List ℕ → ℕ → ℕ → ℕ → ℕ → ℕ → ℕ → List ℕ
with_six out a b c d e f = set (set (set (set (set (set out 0 a) 1 b) 2 c) 3 d) 4 e) 5 f

-- a read-out: the refusal or 0, whether a record is handed over, and its four doublewords
abbrev pub with_read_out : List ℕ → Result (Option FaultRecord) Refusal → List ℕ
with_read_out out (Ok (Some r)) = with_six out 0 1 r.transaction r.custom r.iotval r.iotval2
with_read_out out (Ok None) = with_six out 0 0 0 0 0 0
with_read_out out (Err refusal) = with_six out (number_of refusal) 0 0 0 0 0
