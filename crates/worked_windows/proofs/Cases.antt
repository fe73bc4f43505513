-- The cases of Req 05 hold of the definitions: the checker computes each row. Assumes nothing.
use mathlib.Core.Path.{refl}
use lib.Count.{ones_in, ones}
use Rattle.memory.specs.Window.{memory, part_of}
use Rattle.paging_scheme.specs.Scheme.{legal_of, index_of}
use Rattle.paging_entry.specs.Entry.{entry_of, allows, mapped_by, on_load}
use Rattle.paging.specs.Levels.{level_step, levels, walk_of}
use Rattle.paging.specs.Stages.{second_stage_of, first_stage_of}
use Rattle.directory_entry.specs.Entries.{pointer_of, too_wide}
use Rattle.directory_walk.specs.Pointers.{leaf_place}
use Rattle.directory_context.specs.Device.{device_misconfigured}
use Rattle.directory_device.specs.Device.{device_context_at, device_context_of}
use Rattle.directory_context.specs.Process.{process_misconfigured}
use Rattle.directory_process.specs.Process.{process_context_at, process_context_of, process_table, first_table_of}
use Rattle.message_recognition.specs.Recognition.{recognised, packed, extract}
use Rattle.message.specs.Table.{translate_reserved, record_reserved, on_notice, on_translate, on_message_entry, message_of}
use Rattle.interrupt_file.specs.Bit.{bit_at, with_bit, without_bit}
use Rattle.interrupt_file.specs.File.{is_file, pending_of, after_store, after_take}
use Rattle.interrupt_file.specs.Report.{pairs_of, count_of}
use Rattle.iommu_refusals.specs.Refusals.{bad_window, overlap, request_refusal, take_refusal, report_refusal}
use Rattle.iommu_translation.specs.Translate.{untranslated, message_table, guest_of, stages_of, directory_of, translate_of}
use Rattle.iommu.specs.Request.{storable_as, finish, request_of, after_request}
use Rattle.iommu_files.specs.Files.{take_of, after_take_of, report_of}
use Rattle.worked_rows.specs.Memory.{words}
use Rattle.worked_rows.specs.Rows.{Agrees}
use Rattle.worked_windows.specs.Windows.{chip, main, windows}

pub windows_hold : Agrees windows
unfolding ones_in ones memory part_of legal_of index_of entry_of allows mapped_by on_load level_step levels walk_of second_stage_of first_stage_of pointer_of leaf_place too_wide device_misconfigured device_context_at device_context_of process_misconfigured process_context_at process_context_of process_table first_table_of recognised packed extract translate_reserved record_reserved on_notice on_translate on_message_entry message_of bit_at with_bit without_bit is_file pending_of after_store after_take pairs_of count_of bad_window overlap request_refusal take_refusal report_refusal untranslated message_table guest_of stages_of directory_of translate_of storable_as finish request_of after_request take_of after_take_of report_of words chip main windows
windows_hold = (refl, (refl, (refl, (refl, (refl, (refl, (refl, (refl, (refl, (refl, (refl, (refl, (refl, (refl, (refl, (refl, (refl, (refl, (refl, (refl, (refl, (refl, (refl, (refl, (refl, (refl, (refl, (refl, (refl, (refl, tt))))))))))))))))))))))))))))))
