-- An entry as the code looks at it: a non-leaf by tests of its bits joined by `&`, a leaf by a mask made before the walk, and steps that carry no cause. Nothing that a reader has to believe: `paging_entry.EntryLaws.tested` and `paging_entry.EntryLaws.coded` show that it says what `Entry` says.
use Rattle.std.specs.Prelude.{ℕ, ◌+◌, ◌*◌, ◌%◌, ◌^◌, ◌<◌, Bool, not, ◌&&◌, eqb, ltb, Err, None, Ok, Some}
use Rattle.std.specs.Int.Bits.{bit_and}
use Rattle.memory.specs.Choice.{pick}
use Rattle.memory.specs.Bits.{bits, bit}
use Rattle.memory.specs.Load.{Load}
use Rattle.causes.specs.declared.Access.{Access}
use Rattle.causes.specs.declared.Access.TheVariants.{Read, Write, Execute}
use Rattle.paging_entry.specs.declared.Purpose.{Purpose}
use Rattle.paging_entry.specs.declared.Pages.{Pages}
use Rattle.paging_entry.specs.declared.Pages.TheVariants.{User, Supervisor, Any}
use Rattle.paging_entry.specs.declared.LeafTest.{LeafTest}
use Rattle.paging_entry.specs.Purpose.{Translation}
use Rattle.paging_entry.specs.Purpose.{Step}
use Rattle.std.specs.declared.ops.ControlFlow.TheVariants.{Break, Continue}
use Rattle.paging_entry.specs.declared.Raw.{Raw}
use Rattle.paging_entry.specs.declared.Raw.TheVariants.{Arrive, Next, Faulty, Unread}
use Rattle.paging_scheme.specs.Scheme.{page_bits_of}
use Rattle.paging_entry.specs.Purpose.{page_fault_of, access_fault_of}
use Rattle.paging_entry.specs.Entry.{entry_page}

-- V = 1, and none of bits 63:54
abbrev pub sound_bits : ℕ → Bool
sound_bits e = bit e 0 && eqb (bits e 63 54) 0

-- a non-leaf: no R, W, X, U, A, D
unfoldable pub table_bits : ℕ → Bool
table_bits e = sound_bits e && not (bit e 1) && not (bit e 2) && not (bit e 3) && not (bit e 4) && not (bit e 6) && not (bit e 7)

-- the bits that an access needs of a leaf: R; R, W, D; X
abbrev pub access_bits : Access → ℕ
access_bits Read = 2
access_bits Write = 134
access_bits Execute = 8

-- U where the pages go by it
abbrev pub owner_mask : Pages → ℕ
owner_mask User = 16
owner_mask Supervisor = 16
owner_mask Any = 0

-- U where it must be 1
abbrev pub owner_want : Pages → ℕ
owner_want User = 16
owner_want Supervisor = 0
owner_want Any = 0

-- V, A, none of bits 63:54, and what access and pages ask
abbrev pub test_of : Access → Pages → LeafTest
test_of x pages =
    record {
      mask = 0xFFC0000000000041 + access_bits x + owner_mask pages;
      want = 0x41 + access_bits x + owner_want pages;
    }

-- a leaf that is used: it passes the test, and W isn't without R
abbrev pub leaf_bits : ℕ → LeafTest → Bool
leaf_bits e t = eqb (bit_and e t.mask) t.want && not (eqb (bit_and e 6) 4)

-- what a loaded entry of level n leads to
unfoldable pub raw_load : LeafTest → ℕ → ℕ → Load → Raw
raw_load t a n None = Unread
raw_load t a n (Some e) =
    pick (table_bits e)
    (Next (entry_page e))
    (pick (leaf_bits e t && eqb (entry_page e % 2 ^ (9 * n)) 0) (Arrive (entry_page e * 4096 + a % 2 ^ page_bits_of n)) Faulty)

-- with its cause
abbrev pub to_step : Purpose → Access → Raw → Step
to_step p x (Arrive a) = Break (Ok a)
to_step p x (Next table) = Continue table
to_step p x Faulty = Break (Err (page_fault_of p x))
to_step p x Unread = Break (Err (access_fault_of p x))

-- at the end of a walk, where a non-leaf is a fault
abbrev pub told_of : Purpose → Access → Raw → Translation
told_of p x (Arrive a) = Ok a
told_of p x (Next table) = Err (page_fault_of p x)
told_of p x Faulty = Err (page_fault_of p x)
told_of p x Unread = Err (access_fault_of p x)

-- the end of a walk as one number: an address, or one of two that no address is
abbrev pub faulty_end : ℕ
faulty_end = 0x8000000000000000

abbrev pub unread_end : ℕ
unread_end = 0x8000000000000001

abbrev pub code_of : Raw → ℕ
code_of (Arrive a) = a
code_of (Next table) = faulty_end
code_of Faulty = faulty_end
code_of Unread = unread_end

abbrev pub told_by : Purpose → Access → ℕ → Translation
told_by p x r = pick (ltb r faulty_end) (Ok r) (pick (eqb r faulty_end) (Err (page_fault_of p x)) (Err (access_fault_of p x)))

-- bounds that sums need
abbrev pub Tight : Raw → Type 0
Tight (Arrive a) = a < 2 ^ 57
Tight (Next table) = table < 2 ^ 44
Tight Faulty = Unit {0}
Tight Unread = Unit {0}
