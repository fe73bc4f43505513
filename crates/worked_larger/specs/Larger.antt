-- Req 03 of document 02 in one table: the limits of the six schemes, the 259 and 267 checks that it amends, large pages, and each pair of schemes through the whole request.
use Rattle.std.specs.Prelude.{ℕ, ◌+◌, ◌-◌, ◌*◌, ◌^◌, false, List, [], ◌∷◌, ◌++◌, map, eqb, replicate, Err, None, Ok}
use Rattle.memory.specs.Choice.{pick}
use Rattle.causes.specs.declared.Access.TheVariants.{Read}
use Rattle.paging_scheme.specs.Scheme.{legal_of}
use Rattle.paging_entry.specs.Entry.{leaf_of, mapped_by}
use Rattle.paging.specs.Stages.{guest_lookup}
use Rattle.paging_scheme.specs.declared.Scheme.{Scheme}
use Rattle.paging_scheme.specs.declared.Scheme.TheVariants.{Sv39, Sv48, Sv57, Sv39x4, Sv48x4, Sv57x4}
use Rattle.paging_entry.specs.declared.Purpose.TheVariants.{SecondStage}
use Rattle.paging_entry.specs.Purpose.{Translation}
use Rattle.directory_context.specs.Device.{device_misconfigured}
use Rattle.directory_context.specs.Process.{process_misconfigured}
use Rattle.message_recognition.specs.Recognition.{recognised, file_number}
use Rattle.iommu.specs.Request.{request_of}
use Rattle.worked_rows.specs.Memory.{words}
use Rattle.worked_rows.specs.Rows.{Row, row, one, shown}

-- a scheme with a sign: the last legal address and the first illegal one, then the last illegal and the first legal at the other end
abbrev signed : Scheme → ℕ → List ℕ
signed s half = map (λ a. one (legal_of s a)) ((half - 1) ∷ half ∷ (2 ^ 64 - half - 1) ∷ (2 ^ 64 - half) ∷ [])

-- a guest scheme: the last legal address and the first illegal one
abbrev guest : Scheme → ℕ → List ℕ
guest s limit = map (λ a. one (legal_of s a)) ((limit - 1) ∷ limit ∷ [])

-- whether a device context is misconfigured, by iohgatp, fsc, mask and pattern
abbrev wrong : ℕ → ℕ → ℕ → ℕ → ℕ
wrong iohgatp fsc mask pattern =
    one
    (device_misconfigured
    (record { tc = 1; iohgatp = iohgatp; ta = 0; fsc = fsc; msiptp = 0; mask = mask; pattern = pattern; reserved = 0 }))

-- each of the sixteen modes, in order
abbrev modes : (ℕ → ℕ) → List ℕ
modes f = map f (0 ∷ 1 ∷ 2 ∷ 3 ∷ 4 ∷ 5 ∷ 6 ∷ 7 ∷ 8 ∷ 9 ∷ 10 ∷ 11 ∷ 12 ∷ 13 ∷ 14 ∷ 15 ∷ [])

-- 0, 8, 9 and 10 pass
abbrev four : List ℕ
four = 0 ∷ 1 ∷ 1 ∷ 1 ∷ 1 ∷ 1 ∷ 1 ∷ 1 ∷ 0 ∷ 0 ∷ 0 ∷ 1 ∷ 1 ∷ 1 ∷ 1 ∷ 1 ∷ []

-- a root at each of four pages, by iohgatp's mode
abbrev roots : ℕ → List ℕ
roots mode = map (λ page. wrong (mode * 2 ^ 60 + page) 0 0 0) (0x40004 ∷ 0x40005 ∷ 0x40006 ∷ 0x40007 ∷ [])

-- a translation's address, or the cause of its fault
abbrev address : Translation → ℕ
address (Ok a) = a
address (Err f) = f.cause

-- a leaf of level n with a page number, for the guest address 2^59 - 1: V, R, W, X, U, A and D
abbrev large : ℕ → ℕ → ℕ
large n page = address (mapped_by (guest_lookup SecondStage Read (2 ^ 59 - 1)) n (leaf_of (page * 1024 + 0xDF)))

-- device 4 x first + second has the first stage and the second of these: 0 Bare, then modes 8, 9 and 10, both on the table at 0x40004000
abbrev stage : ℕ → ℕ
stage n = pick (eqb n 0) 0 ((7 + n) * 2 ^ 60 + 0x40004)

abbrev context_of : ℕ → ℕ → List ℕ
context_of first second = 1 ∷ stage second ∷ 0 ∷ stage first ∷ 0 ∷ 0 ∷ 0 ∷ 0 ∷ []

abbrev contexts_of : ℕ → List ℕ
contexts_of first = context_of first 0 ++ (context_of first 1 ++ (context_of first 2 ++ context_of first 3))

-- the contexts' page, and a table of four pages: entries 0, 255, 256 and 2047 map the page at 0, of the root's level; entry 1 maps the 1 GiB where the table lies
unfoldable pub tables : List ℕ
unfolding words
tables =
    words (contexts_of 0 ++ (contexts_of 1 ++ (contexts_of 2 ++ contexts_of 3)))
    ++ (replicate (4096 - 1024) 0
    ++ (words (0xDF ∷ 0x100000DF ∷ [])
    ++ (replicate (8 * 253) 0 ++ (words (0xDF ∷ 0xDF ∷ []) ++ (replicate (8 * 1790) 0 ++ words (0xDF ∷ []))))))

-- the answer to a read of one byte, by the schemes of both stages
abbrev read_at : ℕ → ℕ → ℕ → List ℕ
read_at first second a =
    shown
    (request_of
    (record { starts = record { first = 0x40003000; second = 0 }; mode = 2; root = 0x40003 })
    tables
    []
    (record {
      device = 4 * first + second;
      process = None;
      supervisor = false;
      access = Read;
      address = a;
      length = 1;
    })
    0)

abbrev translated : ℕ → List ℕ
translated a = 0 ∷ a ∷ 0 ∷ 0 ∷ []

-- a page fault of the first stage, and a guest page fault of the second
abbrev first-fault : List ℕ
first-fault = 4 ∷ 13 ∷ 0 ∷ 0 ∷ 2 ∷ []

abbrev guest_fault : List ℕ
guest_fault = 4 ∷ 21 ∷ 0 ∷ 0 ∷ 3 ∷ []

-- an address that the first stage's root entry 255 leads to guest address g, under each second stage
abbrev pairs : ℕ → ℕ → ℕ → List ℕ
pairs first bits g = read_at first 1 (255 * 2 ^ bits + g) ++ (read_at first 2 (255 * 2 ^ bits + g) ++ read_at first 3 (255 * 2 ^ bits + g))

unfoldable pub larger : List Row
larger =  -- "2^38 and 2^41 there bind only the old schemes": each scheme has its own limit
    row 1 (signed Sv39 (2 ^ 38)) (1 ∷ 0 ∷ 0 ∷ 1 ∷ [])
    ∷ row 2 (signed Sv48 (2 ^ 47)) (1 ∷ 0 ∷ 0 ∷ 1 ∷ [])
    ∷ row 3 (signed Sv57 (2 ^ 56)) (1 ∷ 0 ∷ 0 ∷ 1 ∷ [])
    ∷ row 4 (guest Sv39x4 (2 ^ 41)) (1 ∷ 0 ∷ [])
    ∷ row 5 (guest Sv48x4 (2 ^ 50)) (1 ∷ 0 ∷ [])
    ∷ row 6 (guest Sv57x4 (2 ^ 59)) (1 ∷ 0 ∷ [])
    -- "mask and pattern bits up to 46 are usable and those above stay reserved"
    ∷ row 7 (wrong 0 0 (2 ^ 46) 0 ∷ wrong 0 0 (2 ^ 47) 0 ∷ wrong 0 0 (2 ^ 47 - 1) 0 ∷ wrong 0 0 (2 ^ 63) 0 ∷ []) (0 ∷ 1 ∷ 0 ∷ 1 ∷ [])
    ∷ row 8 (wrong 0 0 0 (2 ^ 46) ∷ wrong 0 0 0 (2 ^ 47) ∷ wrong 0 0 0 (2 ^ 47 - 1) ∷ wrong 0 0 0 (2 ^ 63) ∷ []) (0 ∷ 1 ∷ 0 ∷ 1 ∷ [])
    ∷ row 9 (one (recognised (2 ^ 46) 5 (2 ^ 58 + 5 * 4096)) ∷ file_number (2 ^ 46) (2 ^ 58 + 5 * 4096) ∷ []) (1 ∷ 1 ∷ [])
    -- "as modes 9 and 10": of iohgatp and fsc in the device context (259), of fsc in the process context (267)
    ∷ row 10 (modes (λ m. wrong (m * 2 ^ 60) 0 0 0)) four
    ∷ row 11 (modes (λ m. wrong 0 (m * 2 ^ 60) 0 0)) four
    ∷ row 12 (modes (λ m. one (process_misconfigured (record { ta = 1; fsc = m * 2 ^ 60 })))) four
    -- "A guest root still has two extra index bits", so it lies on 16 KiB
    ∷ row 13 (roots 8) (0 ∷ 1 ∷ 1 ∷ 1 ∷ [])
    ∷ row 14 (roots 9) (0 ∷ 1 ∷ 1 ∷ 1 ∷ [])
    ∷ row 15 (roots 10) (0 ∷ 1 ∷ 1 ∷ 1 ∷ [])
    -- pages of 4 KiB, 2 MiB, 1 GiB, 512 GiB and 256 TiB: the offset is kept, and half a page out is a fault
    ∷ row 16 (large 0 1 ∷ []) ((2 ^ 13 - 1) ∷ [])
    ∷ row 17 (large 1 (2 ^ 9) ∷ large 1 (2 ^ 8) ∷ []) ((2 ^ 22 - 1) ∷ 21 ∷ [])
    ∷ row 18 (large 2 (2 ^ 18) ∷ large 2 (2 ^ 17) ∷ []) ((2 ^ 31 - 1) ∷ 21 ∷ [])
    ∷ row 19 (large 3 (2 ^ 27) ∷ large 3 (2 ^ 26) ∷ []) ((2 ^ 40 - 1) ∷ 21 ∷ [])
    ∷ row 20 (large 4 (2 ^ 36) ∷ large 4 (2 ^ 35) ∷ []) ((2 ^ 49 - 1) ∷ 21 ∷ [])
    -- the limits through the whole request, one stage alone
    ∷ row 21 (read_at 1 0 (2 ^ 38 - 1) ++ read_at 1 0 (2 ^ 38)) (translated (2 ^ 30 - 1) ++ first-fault)
    ∷ row 22 (read_at 2 0 (2 ^ 47 - 1) ++ read_at 2 0 (2 ^ 47)) (translated (2 ^ 39 - 1) ++ first-fault)
    ∷ row 23 (read_at 3 0 (2 ^ 56 - 1) ++ read_at 3 0 (2 ^ 56)) (translated (2 ^ 48 - 1) ++ first-fault)
    ∷ row 24 (read_at 3 0 (2 ^ 64 - 2 ^ 56 - 1) ++ read_at 3 0 (2 ^ 64 - 2 ^ 56)) (first-fault ++ translated 0)
    ∷ row 25 (read_at 0 1 (2 ^ 41 - 1) ++ read_at 0 1 (2 ^ 41)) (translated (2 ^ 30 - 1) ++ guest_fault)
    ∷ row 26 (read_at 0 2 (2 ^ 50 - 1) ++ read_at 0 2 (2 ^ 50)) (translated (2 ^ 39 - 1) ++ guest_fault)
    ∷ row 27 (read_at 0 3 (2 ^ 59 - 1) ++ read_at 0 3 (2 ^ 59)) (translated (2 ^ 48 - 1) ++ guest_fault)
    -- each pair of schemes; under both, the guest address has the second's limit
    ∷ row 28 (pairs 1 30 0x1234) (translated 0x1234 ++ (translated 0x1234 ++ translated 0x1234))
    ∷ row 29 (pairs 2 39 0x1234) (translated 0x1234 ++ (translated 0x1234 ++ translated 0x1234))
    ∷ row 30 (pairs 3 48 0x1234) (translated 0x1234 ++ (translated 0x1234 ++ translated 0x1234))
    ∷ row 31 (pairs 3 48 (2 ^ 47 + 0x1234)) (guest_fault ++ (translated 0x1234 ++ translated (2 ^ 47 + 0x1234)))
    ∷ []
