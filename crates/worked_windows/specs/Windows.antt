-- Req 05 of document 02 in one table: 2001 and 2011 over both windows, windows that are empty or touch, and tables, messages and files in either.
use Rattle.std.specs.Prelude.{ℕ, ◌-◌, ◌^◌, false, List, [], ◌∷◌, ◌++◌, replicate, set, None}
use Rattle.memory.specs.Window.{Lent, lent_at}
use Rattle.causes.specs.declared.Access.{Access}
use Rattle.causes.specs.declared.Access.TheVariants.{Read, Write}
use Rattle.interrupt_file.specs.declared.Pair.{Pair}
use Rattle.interrupt_file.specs.declared.Report.{Report}
use Rattle.iommu_files.specs.Files.{report_of}
use Rattle.iommu.specs.Operations.{Op, request, take, starts_of, answer_of, after_of}
use Rattle.worked_rows.specs.Memory.{words}
use Rattle.worked_rows.specs.Rows.{Row, row, shown}

-- "The new board keeps tables on chip": two pages, a directory of one level and a message table. Device 0 sends messages; the page table of device 1 is main memory's first page, and that of device 2 is the page after the chip's. File number 1 redirects, 2 has its file in main memory, 3 in neither
unfoldable pub chip : List ℕ
unfolding words
chip =
    words
    (1 ∷ 0x8000000000040000 ∷ 0 ∷ 0 ∷ 0x1000000000040001 ∷ 3 ∷ 0x80004 ∷ 0
    ∷ 1 ∷ 0 ∷ 0 ∷ 0x8000000000050000 ∷ 0 ∷ 0 ∷ 0 ∷ 0
    ∷ 1 ∷ 0 ∷ 0 ∷ 0x8000000000040002 ∷ 0 ∷ 0 ∷ 0 ∷ 0 ∷ [])
    ++ (replicate (4096 - 192) 0
    ++ (words (0 ∷ 0 ∷ 0xA000407 ∷ 0 ∷ 0x14000483 ∷ 0x100000000A000005 ∷ 0x18000083 ∷ 0x100000000A000005 ∷ []) ++ replicate (4096 - 64) 0))

-- "and files in main memory": two pages, a page table whose entry 0 maps the 1 GiB at 0x80000000, and files
unfoldable pub main : List ℕ
unfolding words
main = words (0x200000DF ∷ []) ++ (replicate (4096 - 8) 0 ++ replicate 4096 0)

-- with identity 37 of the file 0x50001200 pending
abbrev waiting : List ℕ
waiting = set main 0x1204 32

-- where they are, and which is lent first
abbrev apart : List ℕ → Lent
apart m = lent_at 0x40000000 chip 0x50000000 m

abbrev swapped : List ℕ → Lent
swapped m = lent_at 0x50000000 m 0x40000000 chip

-- a device's access under a directory mode, and a message of identity 37 to a guest address
abbrev access : ℕ → ℕ → Access → ℕ → ℕ → Op
access mode device x a d =
    request mode 0x40000 (record { device = device; process = None; supervisor = false; access = x; address = a; length = 4 }) d

abbrev message : ℕ → Op
message a = access 2 0 Write a 37

abbrev told : Lent → Op → List ℕ
told l op = shown (answer_of l op)

abbrev reads : Lent → ℕ → ℕ → List ℕ
reads l device a = told l (access 2 device Read a 0)

-- a report: its refusal, and its first doubleword, the pending bits of identities 0 to 63
abbrev pending : List Pair → ℕ
pending [] = 0
pending (p ∷ ps) = p.pending

abbrev shown_report : Report → List ℕ
shown_report r = r.refusal ∷ pending r.pairs ∷ []

abbrev reports : Lent → ℕ → List ℕ
reports l file = shown_report (report_of (starts_of l) l.first.bytes l.second.bytes file)

-- a request under a directory mode, a take and a report of a file
abbrev all : Lent → ℕ → ℕ → List ℕ
all l mode file = told l (access mode 1 Read 0x1234 0) ++ (told l (take file 37) ++ reports l file)

abbrev refusal : ℕ → List ℕ
refusal r = 5 ∷ r ∷ 0 ∷ 0 ∷ []

abbrev refused : ℕ → List ℕ
refused r = refusal r ++ (refusal r ++ (r ∷ 0 ∷ []))

unfoldable pub windows : List Row
windows =  -- "2001, which now covers both windows": the second's start, its length, its end; and the first's
    row 1 (all (lent_at 0x40000000 chip 0x50000800 main) 2 0x50001200) (refused 2001)
    ∷ row 2 (all (lent_at 0x40000000 chip 0x50000000 (words (0 ∷ []))) 2 0x40001200) (refused 2001)
    ∷ row 3 (all (lent_at 0x40000000 chip (2 ^ 56 - 4096) main) 2 0x40001200) (refused 2001)
    ∷ row 4 (all (lent_at 0x50000800 main 0x40000000 chip) 2 0x40001200) (refused 2001)
    -- "If they overlap, refuse with 2011": by a page, in both orders
    ∷ row 5 (all (lent_at 0x40000000 chip 0x40001000 main) 2 0x40001200) (refused 2011)
    ∷ row 6 (all (lent_at 0x40001000 main 0x40000000 chip) 2 0x40001200) (refused 2011)
    -- "checked just after 2001": before 2002 and 2008, after 2001
    ∷ row 7 (all (lent_at 0x40000000 chip 0x40001000 main) 5 0x60000200) (refused 2011)
    ∷ row 8 (all (lent_at 0x40000000 chip 0x40000800 main) 5 0x60000200) (refused 2001)
    -- "An empty window overlaps nothing": the second in the first, and the first in the second
    ∷ row 9 (reads (lent_at 0x40000000 chip 0x40001000 []) 0 0x80005000) (1 ∷ 0x28001000 ∷ 0 ∷ 0 ∷ [])
    ∷ row 10 (reads (lent_at 0x40001000 [] 0x40000000 chip) 0 0x80005000) (1 ∷ 0x28001000 ∷ 0 ∷ 0 ∷ [])
    -- windows that touch, in both orders: the page after the chip's is main memory's first
    ∷ row 11 (reads (lent_at 0x40000000 chip 0x40002000 main) 2 0x1234) (0 ∷ 0x80001234 ∷ 0 ∷ 0 ∷ [])
    ∷ row 12 (reads (lent_at 0x40002000 main 0x40000000 chip) 2 0x1234) (0 ∷ 0x80001234 ∷ 0 ∷ 0 ∷ [])
    -- "Loads .. consider both": the directory in one window and the page table in the other; in neither, an access fault
    ∷ row 13 (reads (apart main) 1 0x1234) (0 ∷ 0x80001234 ∷ 0 ∷ 0 ∷ [])
    ∷ row 14 (reads (swapped main) 1 0x1234) (0 ∷ 0x80001234 ∷ 0 ∷ 0 ∷ [])
    ∷ row 15 (reads (apart []) 1 0x1234) (4 ∷ 5 ∷ 0 ∷ 0 ∷ 2 ∷ [])
    -- the message's entry in one window and its file in the other: "a store changes at most one byte of one window"
    ∷ row 16 (told (apart main) (message 0x80006000)) (2 ∷ 0x50001200 ∷ 0x28000000 ∷ 1029 ∷ [])
    ∷ row 17 (after_of (apart main) (message 0x80006000)).first.bytes chip
    ∷ row 18 (after_of (apart main) (message 0x80006000)).second.bytes waiting
    ∷ row 19 (told (swapped main) (message 0x80006000)) (2 ∷ 0x50001200 ∷ 0x28000000 ∷ 1029 ∷ [])
    ∷ row 20 (after_of (swapped main) (message 0x80006000)).first.bytes waiting
    ∷ row 21 (after_of (swapped main) (message 0x80006000)).second.bytes chip
    -- the take and the report of it, in either window
    ∷ row 22 (told (apart waiting) (take 0x50001200 37)) (6 ∷ 1 ∷ 0 ∷ 0 ∷ [])
    ∷ row 23 (after_of (apart waiting) (take 0x50001200 37)).second.bytes main
    ∷ row 24 (told (swapped waiting) (take 0x50001200 37)) (6 ∷ 1 ∷ 0 ∷ 0 ∷ [])
    ∷ row 25 (after_of (swapped waiting) (take 0x50001200 37)).first.bytes main
    ∷ row 26 (reports (apart waiting) 0x50001200 ++ reports (swapped waiting) 0x50001200) (0 ∷ 2 ^ 37 ∷ 0 ∷ 2 ^ 37 ∷ [])
    -- "2007 and 2008 consider both": a file in neither, in both orders
    ∷ row 27 (told (apart main) (message 0x80007000) ++ told (swapped main) (message 0x80007000)) (refusal 2007 ++ refusal 2007)
    ∷ row 28 (told (apart main) (take 0x60000200 37) ++ told (swapped main) (take 0x60000200 37)) (refusal 2008 ++ refusal 2008)
    ∷ row 29 (reports (apart main) 0x60000200 ++ reports (swapped main) 0x60000200) (2008 ∷ 0 ∷ 2008 ∷ 0 ∷ [])
    -- without main memory its file is in neither
    ∷ row 30 (told (apart []) (message 0x80006000) ++ told (apart []) (take 0x50001200 37)) (refusal 2007 ++ refusal 2008)
    ∷ []
