-- The walk over the non-leaf entries of a directory (003, "Process to locate the Device-context", steps 2 to 7; "Process to locate the Process-context", steps 2 to 9).
use Rattle.std.specs.Prelude.{ℕ, zero, suc, ◌+◌, ◌*◌, Err, Ok}
use Rattle.memory.specs.Walk.{Walk, done, load, bind}
use Rattle.causes.specs.declared.Access.{Access}
use Rattle.paging.specs.Stages.{second_stage_of}
use Rattle.std.specs.declared.option.Option.{Option}
use Rattle.paging.specs.Table.{StageTable}
use Rattle.paging_entry.specs.declared.Purpose.TheVariants.{ProcessEntry}
use Rattle.paging_entry.specs.Purpose.{Translation}
use Rattle.directory_entry.specs.declared.Tree.{Tree}
use Rattle.directory_entry.specs.Entries.{directory_index, pointer_of, leaf_size}

-- "Where the second stage is on, each process-directory address is a guest address and is translated first, as a read"
abbrev pub guest_place : Option StageTable → Access → ℕ → Walk Translation
guest_place g x a = second_stage_of g ProcessEntry x a

abbrev pub on_pointed : (ℕ → Walk Translation) → Translation → Walk Translation
on_pointed next (Err f) = done (Err f)
on_pointed next (Ok table) = next table

-- a non-leaf entry that lies at an address, and what follows it
abbrev pub on_pointer_place : Tree → (ℕ → Walk Translation) → Translation → Walk Translation
on_pointer_place t next (Err f) = done (Err f)
on_pointer_place t next (Ok p) = load p (λ v. on_pointed next (pointer_of t v))

-- `place` leads from an entry's address to where it lies
module _ (t : Tree) (id : ℕ) (place : ℕ → Walk Translation) where
  -- from the table at an address, i levels above the leaf's, to where the leaf lies
  unfoldable pub leaf_place : ℕ → ℕ → Walk Translation
  leaf_place zero table = place (table + leaf_size t * directory_index t id 0)
  leaf_place (suc i) table = bind (place (table + 8 * directory_index t id (suc i))) (on_pointer_place t (leaf_place i))
