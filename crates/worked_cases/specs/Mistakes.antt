-- Four rows for mistakes that tempt (01, "Mistakes that tempt"): each is answered otherwise by a program that makes one.
use Rattle.std.specs.Prelude.{ℕ, ◌-◌, List, [], ◌∷◌, ◌++◌, replicate, None}
use Rattle.causes.specs.declared.Access.TheVariants.{Read, Write}
use Rattle.iommu.specs.Request.{request_of}
use Rattle.worked_rows.specs.Memory.{words, in_mode}
use Rattle.worked_rows.specs.Rows.{Row, row, shown}
use Rattle.worked_cases.specs.Layout.{window, ask}
use Rattle.worked_cases.specs.Table.{p5, sends}

-- five pages: a directory of one level whose device 0 has both stages and messages; files; the message table with P6's entry; a first-stage root, at guest
-- address 0x3000; a second-stage root, which maps the guest's first GiB onto the window's and its third to 0xC0000000
unfoldable pub behind : List ℕ
unfolding words
behind =
    words (0x1 ∷ 0x8000000000040004 ∷ 0 ∷ 0x8000000000000003 ∷ 0x1000000000040002 ∷ 3 ∷ 0x80004 ∷ 0 ∷ [])
    ++ (replicate (8192 - 64) 0
    ++ (replicate 32 0
    ++ (words (0x10000483 ∷ 0x100000000A000005 ∷ [])
    ++ (replicate (4096 - 48) 0
    ++ (words (0x200000DF ∷ [])
    ++ (replicate (4096 - 8) 0
    ++ (words (0x100000DF ∷ 0 ∷ 0x300000DF ∷ []) ++ replicate (4096 - 24) 0)))))))

unfoldable pub mistakes : List Row
mistakes =
    -- "Matching the device's address and not the guest address": 0x6000 is guest address 0x80006000, a message
    row 1 (shown (sends behind Write 0x6000 37)) (2 ∷ 0x40001200 ∷ 0x28000000 ∷ 1029 ∷ [])
    -- "Passing an invalid message entry on to the second stage"
    ∷ row 2 (shown (sends (window 0xA000406 0) Read 0x80006000 0)) (4 ∷ 262 ∷ 0 ∷ 0 ∷ 4 ∷ [])
    -- "Reading first-stage entries untranslated": the root lies at guest address 0x3000, and not in the window there
    ∷ row 3 (shown (request_of (in_mode 2) behind [] (ask 0 None Read 0x10000123) 0)) (0 ∷ 0xD0000123 ∷ 0 ∷ 0 ∷ [])
    -- "offset kept" under M = 3
    ∷ row 4 (shown (sends p5 Read 0x80006123 0)) (1 ∷ 0x28001123 ∷ 0 ∷ 0 ∷ [])
    ∷ []
