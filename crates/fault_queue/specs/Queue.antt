-- A queue of fault records in a lent buffer (02, Req 04; the IOMMU specification's queue chapter).
use Rattle.std.specs.Prelude.{ℕ, ◌+◌, ◌*◌, ◌/◌, ◌%◌, Bool, true, false, not, ◌&&◌, ◌||◌, List, [], ◌∷◌, ◌++◌, ◌≡◌, eqb, leb, length, replicate, take, drop, Option, Some, None, Result, Ok, Err}
use Rattle.std.specs.Int.Count.{ones}
use Rattle.memory.specs.Choice.{pick}
use Rattle.memory.specs.Code.{eight}
use Rattle.memory.specs.Window.{doubleword}
use Rattle.fault_queue.specs.declared.QueueState.{QueueState}
use Rattle.fault_queue.specs.declared.FaultRecord.{FaultRecord}
use Rattle.refusal.specs.declared.Refusal.{Refusal}
use Rattle.refusal.specs.declared.Refusal.TheVariants.{BadQueue}

-- the lent bytes, and where the queue stands
pub record Queue : Type 0 where
  pub bytes : List ℕ
  pub state : QueueState

abbrev pub queue_of : List ℕ → QueueState → Queue
queue_of bytes q = record { bytes = bytes; state = q }

-- a queue as it begins: so many places of 32 zero bytes, and nothing in them
abbrev pub new_queue : ℕ → Queue
new_queue slots = queue_of (replicate (32 * slots) 0) (record { head = 0; tail = 0; overflow = false })

-- the number of places of 32 bytes
abbrev pub slots_of : ℕ → ℕ
slots_of len = len / 32

-- "32 times a power of two of at least 2": one bit of it is 1, and it is at least 64
unfoldable pub legal_length : ℕ → Bool
legal_length len = leb 64 len && eqb (ones len) 1

-- 2013: "exactly when the queue's length isn't 32 times a power of two of at least 2, or head or tail isn't below the number of places"
unfoldable pub bad_queue : ℕ → QueueState → Bool
unfolding legal_length
bad_queue len q = not (legal_length len) || (leb (slots_of len) q.head || leb (slots_of len) q.tail)

-- queue chapter: an index "goes on by one, modulo N"
abbrev pub following : ℕ → ℕ → ℕ
following slots i = (i + 1) % slots

-- "Empty: head = tail. Full: tail + 1 = head modulo N"
abbrev pub is_empty : QueueState → Bool
is_empty q = eqb q.head q.tail

abbrev pub is_full : ℕ → QueueState → Bool
is_full slots q = eqb (following slots q.tail) q.head

-- "32 bytes, four little-endian doublewords"
unfoldable pub record_bytes : FaultRecord → List ℕ
record_bytes r = eight r.transaction ++ eight r.custom ++ eight r.iotval ++ eight r.iotval2

-- the bytes with a record in slot i, and all others as they are
unfoldable pub put_record : List ℕ → ℕ → FaultRecord → List ℕ
unfolding record_bytes
put_record bytes i r = take (32 * i) bytes ++ record_bytes r ++ drop (32 * i + 32) bytes

-- the record in slot i
abbrev pub record_at : List ℕ → ℕ → FaultRecord
record_at bytes i =
    record {
      transaction = doubleword bytes (32 * i);
      custom = doubleword bytes (32 * i + 8);
      iotval = doubleword bytes (32 * i + 16);
      iotval2 = doubleword bytes (32 * i + 24);
    }

-- "a full queue drops it": "while it stands, new records are dropped"
abbrev pub drops : Queue → Bool
drops qu = qu.state.overflow || is_full (slots_of (length qu.bytes)) qu.state

-- a drop "sets the flag" and changes nothing else
abbrev pub overflowed : QueueState → QueueState
overflowed q = record { head = q.head; tail = q.tail; overflow = true }

-- "A record is written at the tail, then the tail goes on by one, modulo N"
abbrev pub tail_moved : ℕ → QueueState → QueueState
tail_moved slots q = record { head = q.head; tail = following slots q.tail; overflow = q.overflow }

-- the queue with a new record, or without it
unfoldable pub filed : Queue → FaultRecord → Queue
unfolding put_record
filed qu r =
    pick (drops qu) (queue_of qu.bytes (overflowed qu.state))
    (queue_of (put_record qu.bytes qu.state.tail r) (tail_moved (slots_of (length qu.bytes)) qu.state))

-- records one after another
abbrev pub filed_all : Queue → List FaultRecord → Queue
filed_all qu [] = qu
filed_all qu (r ∷ rs) = filed_all (filed qu r) rs

-- the bytes and the state, as a call leaves them, are those of a queue
pub record Lodges (qu : Queue) (bytes : List ℕ) (at : QueueState) : Type 0 where
  pub of_bytes : bytes ≡ qu.bytes
  pub of_state : at ≡ qu.state

-- "Reading out hands over the oldest record .. or none"; "Refuse .. a read-out with 2013"
unfoldable pub read_out_of : Queue → Result (Option FaultRecord) Refusal
unfolding bad_queue
read_out_of qu =
    pick (bad_queue (length qu.bytes) qu.state) (Err BadQueue)
    (pick (is_empty qu.state) (Ok None) (Ok (Some (record_at qu.bytes qu.state.head))))

-- "moving only the head": it goes on by one where a record is handed over
abbrev pub head_moved : ℕ → QueueState → QueueState
head_moved slots q = record { head = following slots q.head; tail = q.tail; overflow = q.overflow }

abbrev pub moved_by : Result (Option FaultRecord) Refusal → Queue → Queue
moved_by (Ok (Some r)) qu = queue_of qu.bytes (head_moved (slots_of (length qu.bytes)) qu.state)
moved_by (Ok None) qu = qu
moved_by (Err refusal) qu = qu

unfoldable pub after_read_out : Queue → Queue
unfolding read_out_of
after_read_out qu = moved_by (read_out_of qu) qu

-- "a call of its own clears it"
abbrev pub cleared : QueueState → QueueState
cleared q = record { head = q.head; tail = q.tail; overflow = false }
