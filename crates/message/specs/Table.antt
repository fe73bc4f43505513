-- The message table and its entries (000, 8.1.5; 003, "Process to translate addresses of MSIs", steps 6 to 15; 01, "Messages").
use Rattle.std.specs.Prelude.{ℕ, ◌+◌, ◌*◌, ◌%◌, ◌^◌, max, Bool, [], ◌∷◌, eqb, Ok, Err}
use Rattle.std.specs.Int.Count.{ones}
use Rattle.std.specs.declared.result.Result.{Result}
use Rattle.causes.specs.declared.FaultInfo.{FaultInfo}
use Rattle.memory.specs.Choice.{pick, any}
use Rattle.memory.specs.Bits.{bits, bit, any_set}
use Rattle.memory.specs.Walk.{Walk, done, load_or}
use Rattle.causes.specs.Causes.{access_fault, fault_at}
use Rattle.causes.specs.declared.Access.{Access}
use Rattle.causes.specs.declared.Access.TheVariants.{Read, Write, Execute}
use Rattle.causes.specs.declared.Stage.TheVariants.{MessageTable}
use Rattle.message.specs.declared.Destination.{Destination}
use Rattle.message.specs.declared.Message.{Message}
use Rattle.message.specs.declared.Message.TheVariants.{Redirect, Record}
use Rattle.message_recognition.specs.Recognition.{file_number}

-- what a message is told: where it goes, or a fault
abbrev pub MessageFound : Type 0
MessageFound = Result Message FaultInfo

-- "message table for 261 to 263 and cause 1 at a message entry"
abbrev pub table_fault : ℕ → MessageFound
table_fault cause = Err (fault_at MessageTable cause)

-- "With k ones in the mask the table needs alignment to the larger of 4,096 and 16 x 2^k"
abbrev pub alignment : ℕ → ℕ
alignment mask = max 4096 (16 * 2 ^ ones mask)

-- "Then read-for-execute is cause 1": an entry permits reads and writes (003, step 15)
abbrev pub permitted : Access → Message → MessageFound
permitted Execute m = table_fault (access_fault Execute)
permitted Read m = Ok m
permitted Write m = Ok m

-- "Reserved bits: 9:3 and 62:54 for M = 3"
unfoldable pub translate_reserved : ℕ → Bool
translate_reserved e = any (any_set e 9 3 ∷ any_set e 62 54 ∷ [])

-- "6:3 and 62:54, then 59:54 and 63:61 for M = 1"
unfoldable pub record_reserved : ℕ → ℕ → Bool
record_reserved e n = any (any_set e 6 3 ∷ any_set e 62 54 ∷ any_set n 59 54 ∷ any_set n 63 61 ∷ [])

-- "M = 3: page number in bits 53:10, .. offset kept"
abbrev pub redirected : ℕ → ℕ → ℕ
redirected e a = bits e 53 10 * 4096 + a % 4096

-- "first doubleword bits 53:7 are file address bits 55:9; second: notice number bits 9:0 at 9:0 and bit 10 at bit 60, notice page at 53:10"
abbrev pub destination_of : ℕ → ℕ → Destination
destination_of e n =
    record {
      file = bits e 53 7 * 512;
      notice = bits n 53 10 * 4096;
      number = bits n 9 0 + 1024 * bits n 60 60;
    }

-- what the second doubleword of an M = 1 entry leads to; the entry's address goes with it, since Req 06 asks for its page
unfoldable pub on_notice : Access → ℕ → ℕ → ℕ → MessageFound
on_notice x at e n = pick (record_reserved e n) (table_fault 263) (permitted x (Record (destination_of e n) at))

unfoldable pub on_translate : Access → ℕ → ℕ → MessageFound
on_translate x a e = pick (translate_reserved e) (table_fault 263) (permitted x (Redirect (redirected e a)))

-- "V = 0 262; C = 1, M = 0 or 2, or a reserved bit 263". The second doubleword is read for M = 1 alone (D13)
unfoldable pub on_message_entry : Access → ℕ → ℕ → ℕ → Walk MessageFound
on_message_entry x a at e =
    pick (bit e 0)
    (pick (bit e 63)
    (done (table_fault 263))
    (pick (eqb (bits e 2 1) 3)
    (done (on_translate x a e))
    (pick (eqb (bits e 2 1) 1)
    (load_or (done (table_fault 261)) (at + 8) (λ n. done (on_notice x at e n)))
    (done (table_fault 263)))))
    (done (table_fault 262))

-- "The entry is 16 bytes at table + 16 x number"
abbrev pub message_entry_at : ℕ → ℕ → ℕ → ℕ
message_entry_at page mask a = page * 4096 + 16 * file_number mask a

-- a message to guest address a, by the table at a page: "misaligned is answered 263 without a load"; "Load 261"
unfoldable pub message_of : ℕ → ℕ → Access → ℕ → Walk MessageFound
message_of page mask x a =
    pick (eqb (page * 4096 % alignment mask) 0)
    (load_or (done (table_fault 261)) (message_entry_at page mask a) (on_message_entry x a (message_entry_at page mask a)))
    (done (table_fault 263))
