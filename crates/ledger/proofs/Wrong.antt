-- Wrong machines: the claim doesn't hold of them. Assumes nothing.
use Rattle.std.specs.Prelude.{Err, Ok}
use Prim.Native.Nat.{ℕ}
use mathlib.Core.Path.{◌≡◌, refl, ap, ◌∙◌}
use mathlib.Core.Bool.{true, false}
use mathlib.Core.List.{[], ◌∷◌}
use native.Mathlib.Omega.{arith}
use lib.Count.{ones_in, ones}
use lib.Dec.{eqb}
use Rattle.memory.specs.Choice.{pick}
use Rattle.memory.specs.Window.{window_at, memory}
use Rattle.paging_scheme.specs.Scheme.{legal_of, index_of}
use Rattle.paging_entry.specs.Entry.{entry_of, allows, mapped_by}
use Rattle.paging_entry.specs.Entry.{on_load}
use Rattle.paging.specs.Levels.{level_step, levels, walk_of}
use Rattle.paging.specs.Stages.{second_stage_of, first_stage_of}
use Rattle.directory_entry.specs.Entries.{pointer_of, too_wide}
use Rattle.directory_walk.specs.Pointers.{leaf_place}
use Rattle.directory_context.specs.Device.{device_misconfigured}
use Rattle.directory_device.specs.Device.{device_context_at, device_context_of}
use Rattle.directory_context.specs.Process.{process_misconfigured}
use Rattle.directory_process.specs.Process.{process_context_at, process_context_of, process_table, first_table_of}
use Rattle.message_recognition.specs.Recognition.{recognised, packed, extract}
use Rattle.message.specs.Table.{translate_reserved, record_reserved, on_notice, on_translate, on_message_entry, message_of}
use Rattle.interrupt_file.specs.Bit.{bit_at, with_bit, without_bit}
use Rattle.interrupt_file.specs.File.{is_file, pending_of, after_store, after_take}
use Rattle.iommu_files.specs.declared.Answer.{Answer}
use Rattle.iommu_files.specs.declared.Answer.TheVariants.{Translated, Redirected, Stored, Discarded, Fault, Refused, Taken}
use Rattle.iommu_files.specs.Answers.{numbers_of, numbers}
use Rattle.iommu_refusals.specs.Refusals.{bad_window, overlap, request_refusal, take_refusal}
use Rattle.iommu_translation.specs.Translate.{untranslated, message_table, guest_of, stages_of, directory_of, translate_of}
use Rattle.iommu.specs.Request.{storable_as, over_tables, finish, request_of, after_request}
use Rattle.iommu_files.specs.Files.{take_of, after_take_of}
use Rattle.iommu.specs.Operations.{Op, request, take, take_many}
use Rattle.ledger.specs.Places.{first_window}
use Rattle.ledger.specs.Machine.{left_by, history}
use Rattle.ledger.specs.Ledger.{entered_all, account_of}
use Rattle.ledger.specs.Closes.{recording, Closes}
use Rattle.message.specs.declared.Destination.{Destination}
use Rattle.iommu_translation.specs.declared.Outcome.{Outcome}
use Rattle.iommu_translation.specs.Translate.{OutcomeFound}
use Rattle.iommu_translation.specs.Translate.{OutcomeFound}
use Rattle.iommu.specs.Operations.{answer_of, after_of}
use Rattle.ledger.specs.Machine.{Machine, asks}
use Rattle.ledger.proofs.Instance.{memories, write_to, write, far}
use Rattle.memory.proofs.Truth.{no_way}
use lib.ListN.{set}

-- it answers everything 6, and overwrites the first byte: that of the device's V and, in the file there, that of no identity's event
abbrev pub overwriting : Machine Op
overwriting =
    record {
      asked = asks;
      answer = λ l o. numbers 6 0 0 0;
      after = λ l o. record { first = window_at l.first.start (set l.first.bytes 0 0); second = l.second };
      Granted = λ l o. Unit {0};
      Counts = λ l ops p. Unit {0};
    }

pub overwriting_breaks : Closes overwriting memories (write 2 0x40000 37 ∷ []) → ⊥
unfolding memories write_to write left_by
overwriting_breaks c =
    no_way ((c.changes [] (write 2 0x40000 37) first_window ([], refl)).others 0x40000000 refl (λ file n h l e. refl))

-- it looks at one root, whatever root a request gives
abbrev other_root : Op → Op
other_root (request mode root q d) = request mode 0x40000 q d
other_root (take file n) = take file n
other_root (take_many file d mask) = take_many file d mask

abbrev pub rootless : Machine Op
rootless =
    record {
      asked = asks;
      answer = λ l o. numbers_of (answer_of l (other_root o));
      after = λ l o. after_of l (other_root o);
      Granted = λ l o. Unit {0};
      Counts = λ l ops p. Unit {0};
    }

abbrev there : Destination
there = record { file = 0x40001200; notice = 0x28000000; number = 1029 }

is_record : OutcomeFound → ℕ
is_record (Ok (Outcome.Recorded d)) = 1
is_record (Ok (Outcome.Translated a)) = 0
is_record (Ok (Outcome.Redirected a)) = 0
is_record (Err f) = 0

pub rootless_breaks : Closes rootless memories (write 2 0x40002 37 ∷ []) → ⊥
unfolding ones_in ones memory legal_of index_of entry_of allows mapped_by on_load level_step levels walk_of second_stage_of first_stage_of pointer_of leaf_place too_wide device_misconfigured device_context_at device_context_of process_misconfigured process_context_at process_context_of process_table first_table_of recognised packed extract translate_reserved record_reserved on_notice on_translate on_message_entry message_of bit_at with_bit without_bit is_file pending_of after_store after_take bad_window overlap request_refusal take_refusal untranslated message_table guest_of stages_of directory_of translate_of storable_as finish request_of after_request take_of after_take_of left_by memories write_to write is_record
rootless_breaks c =
    let s = (c.stored [] (write 2 0x40002 37) 2 0x40002 _ 37 there ([], refl) refl).0 refl in
    no_way (ap is_record s.named)

-- it stores and takes in the first window alone, and answers as the routines do
abbrev pub first_only : Machine Op
first_only =
    record {
      asked = asks;
      answer = λ l o. numbers_of (answer_of l o);
      after = λ l o. record { first = (after_of l o).first; second = l.second };
      Granted = λ l o. Unit {0};
      Counts = λ l ops p. Unit {0};
    }

pub first_only_breaks : Closes first_only memories (write_to 0x80005000 2 0x40000 37 ∷ []) → ⊥
unfolding ones_in ones memory legal_of index_of entry_of allows mapped_by on_load level_step levels walk_of second_stage_of first_stage_of pointer_of leaf_place too_wide device_misconfigured device_context_at device_context_of process_misconfigured process_context_at process_context_of process_table first_table_of recognised packed extract translate_reserved record_reserved on_notice on_translate on_message_entry message_of bit_at with_bit without_bit is_file pending_of after_store after_take bad_window overlap request_refusal take_refusal untranslated message_table guest_of stages_of directory_of translate_of storable_as finish request_of after_request take_of after_take_of left_by memories write_to write history entered_all account_of
first_only_breaks c = no_way (c.marks far 37 (record { within = refl; counts = tt }) (omega arith)).0

-- it answers a store where 2012 refuses one
abbrev over : Destination
over = record { file = 0x40000200; notice = 0x28000000; number = 1031 }

abbrev overlooked : Answer → Answer
overlooked (Refused r) = pick (eqb r 2012) (Stored over) (Refused r)
overlooked (Translated a) = Translated a
overlooked (Redirected a) = Redirected a
overlooked (Stored d) = Stored d
overlooked Discarded = Discarded
overlooked (Fault f) = Fault f
overlooked (Taken w) = Taken w

abbrev pub overlooking : Machine Op
overlooking =
    record {
      asked = asks;
      answer = λ l o. numbers_of (overlooked (answer_of l o));
      after = after_of;
      Granted = λ l o. Unit {0};
      Counts = λ l ops p. Unit {0};
    }

context_of : OutcomeFound → ℕ
context_of (Ok (Outcome.Recorded r)) = r.context
context_of (Ok (Outcome.Translated a)) = 0
context_of (Ok (Outcome.Redirected a)) = 0
context_of (Err f) = 0

pub overlooking_breaks : Closes overlooking memories (write_to 0x80006000 2 0x40000 37 ∷ []) → ⊥
unfolding ones_in ones memory legal_of index_of entry_of allows mapped_by on_load level_step levels walk_of second_stage_of first_stage_of pointer_of leaf_place too_wide device_misconfigured device_context_at device_context_of process_misconfigured process_context_at process_context_of process_table first_table_of recognised packed extract translate_reserved record_reserved on_notice on_translate on_message_entry message_of bit_at with_bit without_bit is_file pending_of after_store after_take bad_window overlap request_refusal take_refusal untranslated message_table guest_of stages_of directory_of translate_of storable_as finish request_of after_request take_of after_take_of left_by memories write_to write context_of
overlooking_breaks c =
    let s = (c.stored [] (write_to 0x80006000 2 0x40000 37) 2 0x40000 _ 37 over ([], refl) refl).0 refl in
    let here : 0x40000000 ≡ s.context = ap context_of s.named in
    let clear : true ≡ false = ap (λ (k : ℕ). over_tables (recording over k s.entry)) here ∙ s.clear in
    no_way cc
