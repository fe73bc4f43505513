-- The worked cases hold of the definitions: the checker computes each row. Assumes nothing.
use mathlib.Core.Path.{refl}
use lib.Count.{ones_in, ones}
use Rattle.memory.specs.Window.{memory}
use Rattle.paging_scheme.specs.Scheme.{legal_of, index_of}
use Rattle.paging_entry.specs.Entry.{entry_of, allows, mapped_by}
use Rattle.paging_entry.specs.Entry.{on_load}
use Rattle.paging.specs.Levels.{level_step, levels, walk_of}
use Rattle.paging.specs.Stages.{second_stage_of, first_stage_of}
use Rattle.directory_entry.specs.Entries.{pointer_of, too_wide}
use Rattle.directory_walk.specs.Pointers.{leaf_place}
use Rattle.directory_context.specs.Device.{device_misconfigured}
use Rattle.directory_device.specs.Device.{device_context_at, device_context_of}
use Rattle.directory_context.specs.Process.{process_misconfigured}
use Rattle.directory_process.specs.Process.{process_context_at, process_context_of, process_table, first_table_of}
use Rattle.message_recognition.specs.Recognition.{recognised, packed, extract}
use Rattle.message.specs.Table.{translate_reserved, record_reserved, on_notice, on_translate, on_message_entry, message_of}
use Rattle.interrupt_file.specs.Bit.{bit_at, with_bit, without_bit}
use Rattle.interrupt_file.specs.File.{is_file, pending_of, after_store, after_take}
use Rattle.iommu_refusals.specs.Refusals.{bad_window, overlap, request_refusal}
use Rattle.iommu_translation.specs.Translate.{untranslated, message_table, guest_of, stages_of, directory_of, translate_of}
use Rattle.iommu.specs.Request.{storable_as, finish, request_of, after_request}
use Rattle.worked_rows.specs.Memory.{in_mode}
use Rattle.worked_rows.specs.Rows.{Agrees}
use Rattle.worked_cases.specs.Layout.{window}
use Rattle.worked_cases.specs.Table.{table}
use Rattle.worked_cases.specs.Limits.{limits}
use Rattle.worked_cases.specs.Mistakes.{behind, mistakes}

pub cases : Agrees table
unfolding ones_in ones memory legal_of index_of entry_of allows mapped_by on_load level_step levels walk_of second_stage_of first_stage_of pointer_of leaf_place too_wide device_misconfigured device_context_at device_context_of process_misconfigured process_context_at process_context_of process_table first_table_of recognised packed extract translate_reserved record_reserved on_notice on_translate on_message_entry message_of bit_at with_bit without_bit is_file pending_of after_store after_take bad_window overlap request_refusal untranslated message_table guest_of stages_of directory_of translate_of storable_as finish request_of after_request window in_mode table
cases = (refl, (refl, (refl, (refl, (refl, (refl, (refl, (refl, (refl, (refl, (refl, (refl, (refl, (refl, tt))))))))))))))

pub limits_hold : Agrees limits
unfolding is_file bad_window limits
limits_hold = (refl, (refl, (refl, (refl, (refl, (refl, (refl, (refl, (refl, (refl, tt))))))))))

pub mistakes_hold : Agrees mistakes
unfolding ones_in ones memory legal_of index_of entry_of allows mapped_by on_load level_step levels walk_of second_stage_of first_stage_of pointer_of leaf_place too_wide device_misconfigured device_context_at device_context_of process_misconfigured process_context_at process_context_of process_table first_table_of recognised packed extract translate_reserved record_reserved on_notice on_translate on_message_entry message_of bit_at with_bit without_bit is_file pending_of after_store after_take bad_window overlap request_refusal untranslated message_table guest_of stages_of directory_of translate_of storable_as finish request_of after_request window behind in_mode mistakes
mistakes_hold = (refl, (refl, (refl, (refl, tt))))
