-- The ledger of a small list of calls, computed: two stores of one identity merge, takes of one and of many, and calls that change nothing. Assumes nothing.
use Rattle.std.specs.Prelude.{None}
use Prim.Native.Nat.{ℕ, ◌+◌, ◌-◌}
use mathlib.Core.Path.{◌≡◌, refl, ap}
use mathlib.Core.Bool.{true, false}
use mathlib.Core.List.{List, [], ◌∷◌, ◌++◌}
use native.Mathlib.Omega.{arith}
use lib.Count.{ones_in, ones}
use lib.ListN.{replicate}
use Rattle.memory.specs.Code.{eight}
use Rattle.memory.specs.Window.{Lent, window_at, memory}
use Rattle.causes.specs.declared.Access.TheVariants.{Write}
use Rattle.paging_scheme.specs.Scheme.{legal_of, index_of}
use Rattle.paging_entry.specs.Entry.{entry_of, allows, mapped_by}
use Rattle.paging_entry.specs.Entry.{on_load}
use Rattle.paging.specs.Levels.{level_step, levels, walk_of}
use Rattle.paging.specs.Stages.{second_stage_of, first_stage_of}
use Rattle.directory_entry.specs.Entries.{pointer_of, too_wide}
use Rattle.directory_walk.specs.Pointers.{leaf_place}
use Rattle.directory_context.specs.Device.{device_misconfigured}
use Rattle.directory_device.specs.Device.{device_context_at, device_context_of}
use Rattle.directory_context.specs.Process.{process_misconfigured}
use Rattle.directory_process.specs.Process.{process_context_at, process_context_of, process_table, first_table_of}
use Rattle.message_recognition.specs.Recognition.{recognised, packed, extract}
use Rattle.message.specs.Table.{translate_reserved, record_reserved, on_notice, on_translate, on_message_entry, message_of}
use Rattle.word.specs.Word.{contains, word_of}
use Rattle.interrupt_file.specs.Bit.{bit_at, with_bit, without_bit}
use Rattle.interrupt_file.specs.File.{is_file, pending_of, after_store, after_take, taken_of, taken_to}
use Rattle.iommu_files.specs.declared.Numbers.{Numbers}
use Rattle.iommu_files.specs.Answers.{numbers}
use Rattle.iommu_refusals.specs.Refusals.{bad_window, overlap, request_refusal, take_refusal, take_many_refusal}
use Rattle.iommu_translation.specs.Translate.{untranslated, message_table, guest_of, stages_of, directory_of, translate_of}
use Rattle.iommu.specs.Request.{storable_as, finish, request_of, after_request}
use Rattle.iommu_files.specs.Files.{take_of, after_take_of, take_many_of, after_take_many_of}
use Rattle.iommu.specs.Operations.{Op, request, take, take_many}
use Rattle.ledger.specs.Places.{first_window, second_window, Place, place}
use Rattle.ledger.specs.Machine.{Call, routines, left_by, history}
use Rattle.ledger.specs.Ledger.{Account, pending_in, entered_all, account_of}
use Rattle.ledger.specs.Closes.{Closes, Adds, account_after, pending_after, answer_at}
use Rattle.ledger.proofs.Closing.{closes}
use Rattle.ledger.proofs.Corollaries.{nothing_lost, answered_exactly}
use Rattle.ledger.proofs.Whole.{counted-all}

unfoldable words : List ℕ → List ℕ
unfolding eight
words [] = []
words (v ∷ vs) = eight v ++ words vs

-- two pages and one, the second window right after the first. In the first page: the context of device 0 and its message table, both over the file 0x40000000; entry 4 names the file 0x40001200, in the page after, entry 5 the file 0x40002200, in the second window, and entry 6 the file 0x40000200, over the tables. The second window is empty: as a device directory it has no valid context
unfoldable pub memories : Lent
unfolding words
memories =
    record {
      first = window_at 0x40000000
          (words (0x1 ∷ 0x8000000000040000 ∷ 0 ∷ 0 ∷ 0x1000000000040000 ∷ 0x1f ∷ 0x80000 ∷ 0 ∷ 0x10000483 ∷ 0x100000000A000005 ∷ 0x10000883 ∷ 0x100000000A000006 ∷ 0x10000083 ∷ 0x100000000A000007 ∷ [])
          ++ replicate (8192 - 112) 0);
      second = window_at 0x40002000 (replicate 4096 0);
    }

-- a 4-byte write of device 0, to a page, under a directory mode and a root
unfoldable pub write_to : ℕ → ℕ → ℕ → ℕ → Op
write_to address mode root d =
    request mode root (record { device = 0; process = None; supervisor = false; access = Write; address = address; length = 4 }) d

unfoldable pub write : ℕ → ℕ → ℕ → Op
unfolding write_to
write mode root d = write_to 0x80004000 mode root d

-- three requests: stored; stored and merged; discarded
pub early : List Op
unfolding write write_to
early = write 2 0x40000 37 ∷ write 2 0x40000 37 ∷ write 2 0x40000 2048 ∷ []

-- after a take: one that finds nothing; two calls that are refused; a store; four to a file of the second window, and a take there; one to a file over the tables, which is refused; a request under the other root, which has no device; a take of the context's V, so that the first directory then faults too
pub later : List Op
unfolding write write_to
later =
    take 0x40001200 37 ∷ take 0x40001201 37 ∷ write 5 0x40000 37 ∷ write 2 0x40000 0
    ∷ write_to 0x80005000 2 0x40000 37 ∷ write_to 0x80005000 2 0x40000 38 ∷ write_to 0x80005000 2 0x40000 64 ∷ write_to 0x80005000 2 0x40000 70 ∷ take 0x40002200 37
    ∷ write_to 0x80006000 2 0x40000 37 ∷ write 2 0x40002 37 ∷ take 0x40000000 0 ∷ write 2 0x40000 37 ∷ []

-- of many: 64 and 70 are taken before these; with a mask of all ones none is left there; 38 isn't in the mask; a doubleword number that is refused; what was stored as 0 in the first window, with the mask that has also 37, which isn't pending
pub last : List Op
last = take_many 0x40002200 1 0xffffffffffffffff ∷ take_many 0x40002200 0 0x2000000000 ∷ take_many 0x40002200 32 1 ∷ take_many 0x40001200 0 0x2000000001 ∷ []

pub middle : List Op
unfolding early later
middle = early ++ (take 0x40001200 37 ∷ later)

pub ops : List Op
unfolding middle last
ops = middle ++ (take_many 0x40002200 1 0x41 ∷ last)

abbrev answers : List (Call Op) → List Numbers
answers [] = []
answers (c ∷ cs) = c.answer ∷ answers cs

abbrev account : ℕ → ℕ → ℕ → ℕ → Account
account mark stores merged takes = record { mark = mark; stores = stores; merged = merged; takes = takes }

-- a file in each window
abbrev pub near : Place
near = place first_window 0x40001200

abbrev pub far : Place
far = place second_window 0x40002200

-- each call's answer, the accounts of seven identities in both windows, and one before the first take
pub computed :
    (answers (history routines memories ops)
    ≡ numbers 2 0x40001200 0x28000000 1029 ∷ numbers 2 0x40001200 0x28000000 1029 ∷ numbers 3 0 0 0 ∷ numbers 6 1 0 0 ∷ numbers 6 0 0 0
    ∷ numbers 5 2008 0 0 ∷ numbers 5 2002 0 0 ∷ numbers 2 0x40001200 0x28000000 1029
    ∷ numbers 2 0x40002200 0x28000000 1030 ∷ numbers 2 0x40002200 0x28000000 1030 ∷ numbers 2 0x40002200 0x28000000 1030 ∷ numbers 2 0x40002200 0x28000000 1030
    ∷ numbers 6 1 0 0 ∷ numbers 5 2012 0 0 ∷ numbers 4 258 0 0 ∷ numbers 6 1 0 0 ∷ numbers 4 258 0 0
    ∷ numbers 6 0x41 0 0 ∷ numbers 6 0 0 0 ∷ numbers 6 0 0 0 ∷ numbers 5 2009 0 0 ∷ numbers 6 1 0 0 ∷ [])
    × (account_after routines memories ops near 37 ≡ account 0 2 1 1)
    × (account_after routines memories ops near 0 ≡ account 0 1 0 1)
    × (account_after routines memories ops (place first_window 0x40000000) 0 ≡ account 0 0 0 1)
    × (account_after routines memories early near 37 ≡ account 1 2 1 0)
    × (account_after routines memories ops far 37 ≡ account 0 1 0 1)
    × (account_after routines memories ops far 38 ≡ account 1 1 0 0)
    × (account_after routines memories ops far 64 ≡ account 0 1 0 1)
    × (account_after routines memories ops far 70 ≡ account 0 1 0 1)
unfolding ones_in ones memory legal_of index_of entry_of allows mapped_by on_load level_step levels walk_of second_stage_of first_stage_of pointer_of leaf_place too_wide device_misconfigured device_context_at device_context_of process_misconfigured process_context_at process_context_of process_table first_table_of recognised packed extract translate_reserved record_reserved on_notice on_translate on_message_entry message_of bit_at with_bit without_bit is_file pending_of after_store after_take bad_window overlap request_refusal take_refusal untranslated message_table guest_of stages_of directory_of translate_of storable_as finish request_of after_request take_of after_take_of take_many_refusal take_many_of after_take_many_of taken_of taken_to contains word_of history left_by entered_all account_of memories write_to write early later middle last ops
computed = (refl, refl, refl, refl, refl, refl, refl, refl, refl)

waits_64 : account_after routines memories middle far 64 ≡ account 1 1 0 0
unfolding ones_in ones memory legal_of index_of entry_of allows mapped_by on_load level_step levels walk_of second_stage_of first_stage_of pointer_of leaf_place too_wide device_misconfigured device_context_at device_context_of process_misconfigured process_context_at process_context_of process_table first_table_of recognised packed extract translate_reserved record_reserved on_notice on_translate on_message_entry message_of bit_at with_bit without_bit is_file pending_of after_store after_take bad_window overlap request_refusal take_refusal untranslated message_table guest_of stages_of directory_of translate_of storable_as finish request_of after_request take_of after_take_of history left_by entered_all account_of memories write_to write early later middle
waits_64 = refl

-- the theorem of this list, with each kind of premise met
pub instance : Closes routines memories ops
instance = closes memories ops

pub balanced : pending_in memories near 37 + 2 ≡ 1 + 1 + pending_after routines memories ops near 37
unfolding is_file memories
balanced = rw computed.1 at (instance.balance near 37 (record { within = refl; counts = tt }) (omega arith))

pub balanced-far : pending_in memories far 38 + 1 ≡ 0 + 0 + pending_after routines memories ops far 38
unfolding is_file memories
balanced-far = rw computed.6 at (instance.balance far 38 (record { within = refl; counts = tt }) (omega arith))

pub added : Adds routines memories ops (near ∷ far ∷ [])
unfolding is_file memories
added = instance.sums (near ∷ far ∷ []) (refl, (refl, tt)) (counted-all memories ops (near ∷ far ∷ []) (refl, (refl, tt)))

pub told : answer_at routines memories early (take 0x40001200 37) ≡ numbers 6 1 0 0
unfolding ops middle last take_refusal bad_window overlap is_file memories
told = rw computed.4 at (instance.taken early (take 0x40001200 37) near 37 (later ++ (take_many 0x40002200 1 0x41 ∷ last), refl) refl refl (record { within = refl; counts = tt })).0

-- a bit in the mask whose interrupt waits is answered
pub answers_64 : contains (answer_at routines memories middle (take_many 0x40002200 1 0x41)).first 0 ≡ true
unfolding ops last take_many_refusal bad_window overlap is_file memories contains
answers_64 =
    (answered_exactly routines memories ops instance middle (take_many 0x40002200 1 0x41) far 1 0x41 (last, refl) refl refl (record { within = refl; counts = tt }) 0 (omega arith)).1
    (refl, ap (λ (a : Account). a.mark) waits_64)

pub kept : pending_after routines memories early near 37 ≡ 1
unfolding early is_file memories
kept = nothing_lost routines memories early (closes memories early) near 37 (record { within = refl; counts = tt }) (omega arith) (tt, (tt, (tt, tt))) (rw computed.4 (omega arith))
