-- The cases of Req 02 hold of the definitions: the checker computes each row. Assumes nothing.
use mathlib.Core.Path.{refl}
use Rattle.memory.specs.Window.{memory}
use Rattle.paging_scheme.specs.Scheme.{legal_of, index_of}
use Rattle.paging_entry.specs.Entry.{entry_of, allows, mapped_by}
use Rattle.paging_entry.specs.Entry.{on_load}
use Rattle.paging.specs.Levels.{level_step, levels, walk_of}
use Rattle.paging.specs.Stages.{second_stage_of, first_stage_of}
use Rattle.directory_entry.specs.Entries.{pointer_of, too_wide}
use Rattle.directory_walk.specs.Pointers.{leaf_place}
use Rattle.directory_context.specs.Device.{device_misconfigured}
use Rattle.directory_device.specs.Device.{device_context_at, device_context_of}
use Rattle.directory_context.specs.Process.{process_misconfigured}
use Rattle.directory_process.specs.Process.{process_context_at, process_context_of, process_table, first_table_of}
use Rattle.iommu_refusals.specs.Refusals.{bad_window, overlap, request_refusal}
use Rattle.iommu_translation.specs.Translate.{untranslated, message_table, guest_of, stages_of, directory_of, translate_of}
use Rattle.iommu.specs.Request.{finish, request_of}
use Rattle.worked_rows.specs.Memory.{in_mode}
use Rattle.worked_rows.specs.Rows.{Agrees}
use Rattle.worked_supervisor.specs.Supervisor.{bytes, supervisors}

pub supervisors_hold : Agrees supervisors
unfolding memory legal_of index_of entry_of allows mapped_by on_load level_step levels walk_of second_stage_of first_stage_of pointer_of leaf_place too_wide device_misconfigured device_context_at device_context_of process_misconfigured process_context_at process_context_of process_table first_table_of bad_window overlap request_refusal untranslated message_table guest_of stages_of directory_of translate_of finish request_of in_mode bytes supervisors
supervisors_hold = (refl, (refl, (refl, (refl, (refl, (refl, (refl, (refl, (refl, (refl, (refl, (refl, (refl, (refl, (refl, (refl, (refl, (refl, (refl, (refl, (refl, (refl, (refl, (refl, tt))))))))))))))))))))))))
