-- P1 to P14 of document 01, in one table.
use Rattle.std.specs.Prelude.{ℕ, ◌+◌, List, [], ◌∷◌, ◌++◌, get_or, None, Some}
use Rattle.causes.specs.declared.Access.{Access}
use Rattle.causes.specs.declared.Access.TheVariants.{Read, Write, Execute}
use Rattle.directory_entry.specs.Entries.{directory_index}
use Rattle.directory_entry.specs.declared.Tree.TheVariants.{Device, Process}
use Rattle.message_recognition.specs.Recognition.{extract, recognised, file_number}
use Rattle.iommu_files.specs.declared.Answer.{Answer}
use Rattle.iommu.specs.Request.{identity_of, request_of, after_request}
use Rattle.worked_rows.specs.Memory.{in_mode}
use Rattle.worked_rows.specs.Rows.{Row, row, one, shown}
use Rattle.worked_cases.specs.Layout.{window, ask}

-- P5's and P6's entries
abbrev pub p5 : List ℕ
p5 = window 0xA000407 0

abbrev pub p6 : List ℕ
p6 = window 0x10000483 0x100000000A000005

-- a message of device 0 in the first window, the second empty, under a directory of one level
abbrev pub sends : List ℕ → Access → ℕ → ℕ → Answer
sends bytes x a d = request_of (in_mode 2) bytes [] (ask 0 None x a) d

-- a write under P6's entry: its answer, and byte k of the file 0x40001200 before and after
abbrev pub wrote : ℕ → ℕ → ℕ → List ℕ
wrote a d k =
    shown (sends p6 Write a d)
    ++ (get_or p6 (0x1200 + k) 0 ∷ get_or (after_request (in_mode 2) p6 [] (ask 0 None Write a) d).first.bytes (0x1200 + k) 0 ∷ [])

unfoldable pub table : List Row
table =
    row 1 (extract 181 166 ∷ []) (14 ∷ [])
    ∷ row 2 (extract 181 0 ∷ []) (0 ∷ [])
    ∷ row 3 (one (recognised 3 0x80004 0x80006123) ∷ file_number 3 0x80006123 ∷ []) (1 ∷ 2 ∷ [])
    ∷ row 4 (one (recognised 3 0x80004 0x80008000) ∷ []) (0 ∷ [])
    ∷ row 5 (shown (sends p5 Read 0x80006000 0)) (1 ∷ 0x28001000 ∷ 0 ∷ 0 ∷ [])
    ∷ row 6 (wrote 0x80006000 37 4) (2 ∷ 0x40001200 ∷ 0x28000000 ∷ 1029 ∷ 0 ∷ 32 ∷ [])
    ∷ row 7 (identity_of (ask 0 None Write 0x80006004) 620756992 ∷ wrote 0x80006004 620756992 4)
    (37 ∷ 2 ∷ 0x40001200 ∷ 0x28000000 ∷ 1029 ∷ 0 ∷ 32 ∷ [])
    ∷ row 8 (wrote 0x80006004 37 4) (3 ∷ 0 ∷ 0 ∷ 0 ∷ 0 ∷ 0 ∷ [])
    ∷ row 9 (wrote 0x80006000 2047 503) (2 ∷ 0x40001200 ∷ 0x28000000 ∷ 1029 ∷ 0 ∷ 128 ∷ [])
    ∷ row 10 (wrote 0x80006000 2048 503) (3 ∷ 0 ∷ 0 ∷ 0 ∷ 0 ∷ 0 ∷ [])
    ∷ row 11
    (directory_index Device 0x012345 0 ∷ directory_index Device 0x012345 1 ∷ directory_index Device 0x012345 2
    ∷ shown (request_of (in_mode 3) p5 [] (ask 0x012345 None Read 0) 0))
    (5 ∷ 141 ∷ 2 ∷ 4 ∷ 260 ∷ 0 ∷ 0 ∷ 0 ∷ [])
    ∷ row 12
    (directory_index Process 0x2A5C3 0 ∷ directory_index Process 0x2A5C3 1 ∷ directory_index Process 0x2A5C3 2
    ∷ shown (request_of (in_mode 2) p5 [] (ask 1 (Some 0x2A5C3) Read 0) 0))
    (195 ∷ 165 ∷ 1 ∷ 4 ∷ 260 ∷ 0 ∷ 0 ∷ 0 ∷ [])
    ∷ row 13 (shown (sends (window 0xA000405 0) Read 0x80006000 0)) (4 ∷ 263 ∷ 0 ∷ 0 ∷ 4 ∷ [])
    ∷ row 14 (shown (sends p5 Execute 0x80006000 0)) (4 ∷ 1 ∷ 0 ∷ 0 ∷ 4 ∷ [])
    ∷ []
