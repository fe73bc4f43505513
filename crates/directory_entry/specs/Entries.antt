-- Entries of both directories (003, "Non-leaf DDT entry", "Non-leaf PDT entry"): which one is a device's or a process's, and what it says.
use Rattle.std.specs.Prelude.{ℕ, ◌*◌, Bool, ◌||◌, ◌&&◌, not, [], ◌∷◌, eqb, leb, Err, None, Ok, Some}
use Rattle.memory.specs.Choice.{pick, any}
use Rattle.memory.specs.Bits.{bits, bit, any_set}
use Rattle.memory.specs.Load.{Load}
use Rattle.memory.specs.Walk.{Walk, done, load_or}
use Rattle.causes.specs.Causes.{fault_at}
use Rattle.causes.specs.declared.Stage.TheVariants.{Directory, ProcessDirectory}
use Rattle.causes.specs.declared.FaultInfo.{FaultInfo}
use Rattle.paging_entry.specs.Purpose.{Translation}
use Rattle.directory_entry.specs.declared.Tree.{Tree}
use Rattle.directory_entry.specs.declared.Tree.TheVariants.{Device, Process}

-- "Load violation 257, V = 0 258, reserved bit set 259"; "Process entries: load 265, not valid 266, misconfigured 267"
abbrev pub load_fault : Tree → FaultInfo
load_fault Device = fault_at Directory 257
load_fault Process = fault_at ProcessDirectory 265

abbrev pub invalid : Tree → FaultInfo
invalid Device = fault_at Directory 258
invalid Process = fault_at ProcessDirectory 266

abbrev pub misconfigured : Tree → FaultInfo
misconfigured Device = fault_at Directory 259
misconfigured Process = fault_at ProcessDirectory 267

-- the first, the second or the third of three numbers, by a level
abbrev pub by_level : ℕ → ℕ → ℕ → ℕ → ℕ
by_level n a b c = pick (eqb n 0) a (pick (eqb n 1) b c)

-- "device_id bits 5:0, 14:6, 23:15 are the indices, lowest level first"; "process_id bits 7:0, 16:8, 19:17 are the indices"
abbrev pub directory_index : Tree → ℕ → ℕ → ℕ
directory_index Device d n = by_level n (bits d 5 0) (bits d 14 6) (bits d 23 15)
directory_index Process p n = by_level n (bits p 7 0) (bits p 16 8) (bits p 19 17)

-- "A nonzero index above the level count is 260"
unfoldable pub too_wide : Tree → ℕ → ℕ → Bool
too_wide t levels id =
    (leb levels 1 && not (eqb (directory_index t id 1) 0)) || (leb levels 2 && not (eqb (directory_index t id 2) 0))

-- "A non-leaf entry is 8 bytes: V bit 0, page number bits 53:10, the rest reserved". It leads to the address of the next table
unfoldable pub pointer_of : Tree → Load → Translation
pointer_of t None = Err (load_fault t)
pointer_of t (Some e) =
    pick (bit e 0)
    (pick (any (any_set e 9 1 ∷ any_set e 63 54 ∷ [])) (Err (misconfigured t)) (Ok (bits e 53 10 * 4096)))
    (Err (invalid t))

-- "The context is 64 bytes"; "a leaf is 16 bytes"
abbrev pub leaf_size : Tree → ℕ
leaf_size Device = 64
leaf_size Process = 16

-- what reads a context: `answer` makes a fault its answer
module _ {A : Type 0} (t : Tree) (answer : FaultInfo → A) where
  -- a doubleword of it, handed on where it can be read
  abbrev pub context_word : ℕ → (ℕ → Walk A) → Walk A
  context_word a k = load_or (done (answer (load_fault t))) a k

  -- its first doubleword, whose bit 0 is V in both. Where V = 0 nothing else of it is read (D13)
  abbrev pub context_from : ℕ → (ℕ → Walk A) → Walk A
  context_from a rest = context_word a (λ w. pick (bit w 0) (rest w) (done (answer (invalid t))))
