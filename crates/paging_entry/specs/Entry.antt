-- A page-table entry (01, "The two walks": "An entry faults if ..").
use Rattle.std.specs.Prelude.{ℕ, ◌+◌, ◌*◌, ◌%◌, ◌^◌, Bool, true, false, ◌&&◌, not, eqb, Err, None, Ok, Some}
use Rattle.memory.specs.Choice.{pick}
use Rattle.memory.specs.Bits.{bits, bit, any_set}
use Rattle.memory.specs.Load.{Load}
use Rattle.causes.specs.declared.Access.{Access}
use Rattle.causes.specs.declared.Access.TheVariants.{Read, Write, Execute}
use Rattle.paging_entry.specs.declared.Pages.{Pages}
use Rattle.paging_entry.specs.declared.Pages.TheVariants.{User, Supervisor, Any}
use Rattle.paging_entry.specs.declared.Lookup.{Lookup}
use Rattle.paging_entry.specs.declared.Leaf.{Leaf}
use Rattle.paging_entry.specs.declared.Entry.{Entry}
use Rattle.paging_entry.specs.declared.Entry.TheVariants.{Faulty, Table, Maps}
use Rattle.paging_entry.specs.Purpose.{Translation}
use Rattle.paging_entry.specs.Purpose.{Step}
use Rattle.std.specs.declared.ops.ControlFlow.TheVariants.{Break, Continue}
use Rattle.paging_scheme.specs.Scheme.{page_bits_of}
use Rattle.paging_entry.specs.Purpose.{asked_of, page_fault_of, access_fault_of}

-- "page number bits 53:10"
abbrev pub entry_page : ℕ → ℕ
entry_page e = bits e 53 10

abbrev pub leaf_of : ℕ → Leaf
leaf_of e =
    record {
      r = bit e 1;
      w = bit e 2;
      x = bit e 3;
      u = bit e 4;
      a = bit e 6;
      d = bit e 7;
      page = entry_page e;
    }

-- a valid entry with no reserved bit: "W without R" faults; without R, W and X it is a non-leaf, which faults "with A, D or U"
abbrev pub kind_of : ℕ → Leaf → Entry
kind_of page l =
    pick l.r
    (Maps l)
    (pick l.w
    Faulty
    (pick l.x
    (Maps l)
    (pick l.u Faulty (pick l.a Faulty (pick l.d Faulty (Table page))))))

-- "An entry faults if V = 0, .. any of bits 63:54 set"
unfoldable pub entry_of : ℕ → Entry
entry_of e = pick (bit e 0) (pick (any_set e 63 54) Faulty (kind_of (entry_page e) (leaf_of e))) Faulty

-- "Read needs R, write W, read-for-execute X"; "or a write with D = 0"
abbrev pub permits : Access → Leaf → Bool
permits Read l = l.r
permits Write l = l.w && l.d
permits Execute l = l.x

-- a page by its U bit
abbrev pub owned_by : Pages → Leaf → Bool
owned_by User l = l.u
owned_by Supervisor l = not l.u
owned_by Any l = true

-- the first-stage pages for a request, by whether it is a supervisor's, SUM, and the access. 01: "a user request needs U = 1; a supervisor request needs U = 0"; 02, Req 02: "SUM = 1 in the process context allows such reads and writes; read-for-execute stays barred" (D37)
abbrev pub pages_for : Bool → Bool → Access → Pages
pages_for false sum x = User
pages_for true false x = Supervisor
pages_for true true Read = Any
pages_for true true Write = Any
pages_for true true Execute = Supervisor

-- "A = 0" faults
unfoldable pub allows : Lookup → Leaf → Bool
allows q l = l.a && (owned_by q.pages l && permits (asked_of q.purpose q.access) l)

-- a page of level n: "a large page whose low page number isn't zero" faults; the offset within the page is kept
unfoldable pub mapped_by : Lookup → ℕ → Leaf → Translation
mapped_by q n l =
    pick (allows q l && eqb (l.page % 2 ^ (9 * n)) 0)
    (Ok (l.page * 4096 + q.address % 2 ^ page_bits_of n))
    (Err (page_fault_of q.purpose q.access))

abbrev pub faulted : Lookup → Translation
faulted q = Err (page_fault_of q.purpose q.access)

-- what an entry of level n leads to
abbrev pub on_entry : Lookup → ℕ → Entry → Step
on_entry q n Faulty = Break (faulted q)
on_entry q n (Table page) = Continue page
on_entry q n (Maps l) = Break (mapped_by q n l)

unfoldable pub on_load : Lookup → ℕ → Load → Step
on_load q n None = Break (Err (access_fault_of q.purpose q.access))
on_load q n (Some e) = on_entry q n (entry_of e)
