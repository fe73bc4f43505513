-- The process directory, and the first stage that it gives (003, "Process to locate the Process-context", and steps 7 to 16 of "Process to translate an IOVA").
use Rattle.std.specs.Prelude.{ℕ, ◌+◌, ◌-◌, ◌*◌, Bool, false, ◌&&◌, not, Err, None, Ok, Some}
use Rattle.memory.specs.Choice.{pick}
use Rattle.memory.specs.Walk.{Walk, done, bind}
use Rattle.causes.specs.Causes.{disallowed}
use Rattle.causes.specs.declared.Access.{Access}
use Rattle.paging_entry.specs.Purpose.{Translation}
use Rattle.directory_entry.specs.declared.Tree.TheVariants.{Process}
use Rattle.directory_entry.specs.Entries.{misconfigured, too_wide, context_word, context_from}
use Rattle.directory_entry.specs.Fields.{root_mode_of, root_page_of, bare_of, first_table, bare_table}
use Rattle.directory_walk.specs.Pointers.{guest_place, leaf_place}
use Rattle.directory_context.specs.declared.DecodedContext.{DecodedContext}
use Rattle.directory_context.specs.declared.ProcessContext.{ProcessContext}
use Rattle.directory_context.specs.Process.{ens_bit, sum_bit, process_misconfigured}
use Rattle.directory_process.specs.Found.{ProcessId, PageTableInfo, stage_of}

-- step 15: "Supervisor without ENS is 260"; step 16. SUM is the process context's; where none is found there is no SUM, as if it were 0
abbrev pub checked_process : Bool → ProcessContext → PageTableInfo
checked_process supervisor c =
    pick (process_misconfigured c)
    (Err (misconfigured Process))
    (pick (supervisor && not (ens_bit c)) (Err disallowed) (Ok (stage_of (first_table c.fsc) (sum_bit c))))

-- the context at an address (steps 10 to 12 of its process), and what it gives
unfoldable pub process_context_at : Bool → ℕ → Walk PageTableInfo
process_context_at supervisor a =
    context_from Process Err a
    (λ ta. context_word Process Err (a + 8) (λ fsc. done (checked_process supervisor (record { ta = ta; fsc = fsc }))))

abbrev pub on_process_place : Bool → Translation → Walk PageTableInfo
on_process_place supervisor (Err f) = done (Err f)
on_process_place supervisor (Ok a) = process_context_at supervisor a

-- step 1 of its process: PD8, PD17 and PD20 are modes 1, 2 and 3, and have as many levels
unfoldable pub process_context_of : DecodedContext → Bool → Access → ℕ → Walk PageTableInfo
process_context_of c supervisor x p =
    bind (leaf_place Process p (guest_place c.second x) (root_mode_of c.fsc - 1) (root_page_of c.fsc * 4096)) (on_process_place supervisor)

-- steps 13 to 16 for a process
unfoldable pub process_table : DecodedContext → Bool → Access → ℕ → Walk PageTableInfo
process_table c supervisor x p = pick (bare_of c.fsc) (done (Ok (stage_of bare_table false))) (process_context_of c supervisor x p)

-- step 7: the process_id is wider than pdtp's mode allows; "(a Bare process directory sets no width)"
abbrev pub process_too_wide : ℕ → ℕ → Bool
process_too_wide fsc p = not (bare_of fsc) && too_wide Process (root_mode_of fsc) p

-- steps 7 and 10 to 16: which first-stage table translates the request, and under which SUM
unfoldable pub first_table_of : DecodedContext → ProcessId → Bool → Access → Walk PageTableInfo
first_table_of c (Some p) supervisor x =
    pick c.pdtv
    (pick (process_too_wide c.fsc p) (done (Err disallowed)) (process_table c supervisor x p))
    (done (Err disallowed))
first_table_of c None supervisor x =
    pick c.pdtv
    (pick c.dpe (process_table c supervisor x 0) (done (Ok (stage_of bare_table false))))
    (done (Ok (stage_of (first_table c.fsc) false)))
