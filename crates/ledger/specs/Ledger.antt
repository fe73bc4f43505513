-- The ledger, from history alone: the windows' starting bytes, then each call's arguments and its answer (01, "The ledger of demand 3").
use Rattle.std.specs.Prelude.{ℕ, ◌+◌, ◌/◌, ◌%◌, ◌&&◌, List, [], ◌∷◌, eqb}
use Rattle.memory.specs.Choice.{pick}
use Rattle.interrupt_file.specs.File.{pending_of}
use Rattle.iommu_files.specs.declared.Numbers.{Numbers}
use Rattle.iommu.specs.Request.{identity_of}
use Rattle.memory.specs.Window.{Lent}
use Rattle.word.specs.Word.{contains}
use Rattle.iommu.specs.Operations.{Op, request, take, take_many}
use Rattle.ledger.specs.Places.{Place, window_of}
use Rattle.ledger.specs.Machine.{Asked, asks, asks_nothing, Machine, Call, history}

-- what a call is to one identity of one file: 01's "store" and "successful take"
pub data Event : Type 0 where
  store : Event
  successful_take : Event
  nothing : Event

-- "A request answered 2 is a store: its file is the answer's first number, its identity the data value, at page offset 4 with the four bytes reversed"
-- "A take answered 6 with 1 is a successful take of the file and identity that it gives"
-- of many, "each answered bit is one successful take of its identity" (02, Req 12): identity n is bit n mod 64 of doubleword n div 64
abbrev pub op_event : ℕ → ℕ → Op → Numbers → Event
op_event file n (request mode root q d) a = pick (eqb a.kind 2 && (eqb a.first file && eqb (identity_of q d) n)) store nothing
op_event file n (take f i) a = pick (eqb a.kind 6 && (eqb f file && (eqb i n && eqb a.first 1))) successful_take nothing
op_event file n (take_many f d mask) a = pick (eqb a.kind 6 && (eqb f file && (eqb d (n / 64) && contains a.first (n % 64)))) successful_take nothing

-- "Any other answer, a refusal too, changes nothing"
abbrev pub asked_event : ℕ → ℕ → Asked → Numbers → Event
asked_event file n (asks o) a = op_event file n o a
asked_event file n asks_nothing a = nothing

abbrev pub event_of : {O : Type 0} → Machine O → ℕ → ℕ → Call O → Event
event_of m file n c = asked_event file n (m.asked c.op) c.answer

-- "For each file and identity it keeps a mark, waiting or not, and counts of stores, merged stores and successful takes"; a mark is 1 where it is waiting
pub record Account : Type 0 where
  pub mark : ℕ
  pub stores : ℕ
  pub merged : ℕ
  pub takes : ℕ

-- "A mark starts as the pending bit, each count at 0"
abbrev pub opened : ℕ → Account
opened bit = record { mark = bit; stores = 0; merged = 0; takes = 0 }

-- a store "adds one to the stores, and one to the merged stores if the mark is waiting; then the mark is waiting"; a successful take "adds one to the successful takes, and the mark is no longer waiting"
abbrev pub entered : Account → Event → Account
entered a store = record { mark = 1; stores = a.stores + 1; merged = a.merged + a.mark; takes = a.takes }
entered a successful_take = record { mark = 0; stores = a.stores; merged = a.merged; takes = a.takes + 1 }
entered a nothing = a

unfoldable pub entered_all : {C : Type 0} → (C → Event) → Account → List C → Account
entered_all event a [] = a
entered_all event a (c ∷ cs) = entered_all event (entered a (event c)) cs

-- the pending bit of an identity of a file of one window
abbrev pub pending_in : Lent → Place → ℕ → ℕ
pending_in l p n = pending_of (window_of l p.side).start (window_of l p.side).bytes p.file n

-- the account of an identity of a file, from what is lent at the start and the history of a list
unfoldable pub account_of : {O : Type 0} → Machine O → Lent → List O → Place → ℕ → Account
unfolding entered_all history
account_of m l ops p n = entered_all (event_of m p.file n) (opened (pending_in l p n)) (history m l ops)
