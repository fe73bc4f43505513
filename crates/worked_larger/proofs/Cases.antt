-- The cases of Req 03 hold of the definitions: the checker computes each row. Assumes nothing.
use Prim.Native.Nat.{ℕ, ◌+◌, ◌-◌, ◌^◌, ◌<◌, ◌≤◌}
use mathlib.Core.Bool.{◌||◌}
use mathlib.Core.Path.{◌≡◌, refl}
use native.Mathlib.Omega.{arith}
use lib.Dec.{ltb, leb}
use Rattle.memory.specs.Choice.{pick}
use Rattle.memory.specs.Window.{memory}
use Rattle.paging_scheme.specs.Scheme.{levels_of, root_bits_of, address_bits_of, signed_of, page_bits_of, legal_of, index_of}
use Rattle.paging_scheme.specs.declared.Scheme.{Scheme}
use Rattle.paging_scheme.specs.declared.Scheme.TheVariants.{Sv39, Sv48, Sv57, Sv39x4, Sv48x4, Sv57x4}
use Rattle.paging_scheme.proofs.SchemeLaws.{legal_range}
use Rattle.paging_entry.specs.Entry.{entry_of, allows, mapped_by}
use Rattle.paging_entry.specs.Entry.{on_load}
use Rattle.paging.specs.Levels.{level_step, levels, walk_of}
use Rattle.paging.specs.Stages.{second_stage_of, first_stage_of}
use Rattle.directory_entry.specs.Entries.{pointer_of, too_wide}
use Rattle.directory_walk.specs.Pointers.{leaf_place}
use Rattle.directory_context.specs.Device.{device_misconfigured}
use Rattle.directory_device.specs.Device.{device_context_at, device_context_of}
use Rattle.directory_context.specs.Process.{process_misconfigured}
use Rattle.directory_process.specs.Process.{process_context_at, process_context_of, process_table, first_table_of}
use Rattle.message_recognition.specs.Recognition.{recognised, packed, extract}
use Rattle.iommu_refusals.specs.Refusals.{bad_window, overlap, request_refusal}
use Rattle.iommu_translation.specs.Translate.{untranslated, message_table, guest_of, stages_of, directory_of, translate_of}
use Rattle.iommu.specs.Request.{finish, request_of}
use Rattle.worked_rows.specs.Rows.{Agrees}
use Rattle.worked_larger.specs.Larger.{tables, larger}

-- every bit of a legal address is looked at by one level or is the page's offset
pub widths_add_up : (s : Scheme) → page_bits_of (levels_of s - 1) + root_bits_of s ≡ address_bits_of s
widths_add_up Sv39 = refl
widths_add_up Sv48 = refl
widths_add_up Sv57 = refl
widths_add_up Sv39x4 = refl
widths_add_up Sv48x4 = refl
widths_add_up Sv57x4 = refl

width_fits : (s : Scheme) → (0 < address_bits_of s) × (address_bits_of s ≤ 64)
width_fits Sv39 = (omega arith, omega arith)
width_fits Sv48 = (omega arith, omega arith)
width_fits Sv57 = (omega arith, omega arith)
width_fits Sv39x4 = (omega arith, omega arith)
width_fits Sv48x4 = (omega arith, omega arith)
width_fits Sv57x4 = (omega arith, omega arith)

-- every legal address of every scheme: below half the scheme's width or in the last half of it below 2^64, where there is a sign; else below the limit
pub legal_everywhere : (s : Scheme) (a : ℕ) → a < 2 ^ 64
    → legal_of s a ≡ pick (signed_of s) (ltb a (2 ^ (address_bits_of s - 1)) || leb (2 ^ 64 - 2 ^ (address_bits_of s - 1)) a) (ltb a (2 ^ address_bits_of s))
legal_everywhere s a l = legal_range s a (width_fits s).0 (width_fits s).1 l

pub larger_hold : Agrees larger
unfolding memory legal_of index_of entry_of allows mapped_by on_load level_step levels walk_of second_stage_of first_stage_of pointer_of leaf_place too_wide device_misconfigured device_context_at device_context_of process_misconfigured process_context_at process_context_of process_table first_table_of recognised packed extract bad_window overlap request_refusal untranslated message_table guest_of stages_of directory_of translate_of finish request_of tables larger
larger_hold = (refl, (refl, (refl, (refl, (refl, (refl, (refl, (refl, (refl, (refl, (refl, (refl, (refl, (refl, (refl, (refl, (refl, (refl, (refl, (refl, (refl, (refl, (refl, (refl, (refl, (refl, (refl, (refl, (refl, (refl, (refl, tt)))))))))))))))))))))))))))))))
