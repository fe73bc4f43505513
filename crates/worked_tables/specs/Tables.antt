-- Req 06 of document 02 in one table: a store is refused exactly where its file lies in the page of the request's device context or of its message entry.
use Rattle.std.specs.Prelude.{ℕ, ◌+◌, ◌-◌, ◌*◌, false, List, [], ◌∷◌, ◌++◌, replicate, set, None}
use Rattle.memory.specs.Window.{Lent, lent_at}
use Rattle.causes.specs.declared.Access.TheVariants.{Write}
use Rattle.iommu.specs.Operations.{Op, request, take, answer_of, after_of}
use Rattle.worked_rows.specs.Memory.{words}
use Rattle.worked_rows.specs.Rows.{Row, row, shown}

-- a directory of two levels in the first window: a page of contexts with that of device 63 at its very end, and the root's page
unfoldable pub directory : List ℕ
unfolding words
directory =
    replicate (4096 - 64) 0
    ++ (words (1 ∷ 0x8000000000040004 ∷ 0 ∷ 0 ∷ 0x1000000000050000 ∷ 0xff ∷ 0x80000 ∷ 0 ∷ 0x10000001 ∷ []) ++ replicate (4096 - 8) 0)

-- in the second its message table, a page with entries 251 to 255 at its very end, and a page of files. The files, by entry: in the context's page, in the root's, in the page after the table, in neither window; and that of 255, the last of the page, at the start of the same page
unfoldable pub messages : List ℕ
unfolding words
messages =
    replicate (4096 - 80) 0
    ++ (words (0x10000003 ∷ 0xA000001 ∷ 0x10000483 ∷ 0xA000002 ∷ 0x14000603 ∷ 0xA000003 ∷ 0x18000003 ∷ 0xA000004 ∷ 0x14000003 ∷ 0xA000005 ∷ [])
    ++ replicate 4096 0)

abbrev both : Lent
both = lent_at 0x40000000 directory 0x50000000 messages

-- context and message table in one page, and a page of files: entry 4 names a file of the first, entry 5 one of the second
unfoldable pub close : List ℕ
unfolding words
close =
    words (1 ∷ 0x8000000000040004 ∷ 0 ∷ 0 ∷ 0x1000000000040000 ∷ 0xff ∷ 0x80000 ∷ 0 ∷ 0x10000383 ∷ 0xA000007 ∷ 0x10000403 ∷ 0xA000008 ∷ [])
    ++ replicate (8192 - 96) 0

abbrev together : Lent
together = lent_at 0x40000000 close 0 []

-- a message of an identity by an entry's number, from device 63 under two levels, and from device 0 under one
abbrev message : ℕ → ℕ → ℕ → ℕ → ℕ → Op
message mode root device number identity =
    request mode root
    (record {
      device = device;
      process = None;
      supervisor = false;
      access = Write;
      address = 0x80000000 + 4096 * number;
      length = 4;
    })
    identity

abbrev last : ℕ → ℕ → Op
last number identity = message 3 0x40001 63 number identity

abbrev near : ℕ → Op
near number = message 2 0x40000 0 number 37

abbrev told : Lent → Op → List ℕ
told l op = shown (answer_of l op)

abbrev refusal : ℕ → List ℕ
refusal r = 5 ∷ r ∷ 0 ∷ 0 ∷ []

unfoldable pub tables : List Row
tables =  -- "in the 4 KiB page that holds the request's device context", which is at the end of it, and the file at its start; nothing changes
    row 1 (told both (last 251 37)) (refusal 2012)
    ∷ row 2 (after_of both (last 251 37)).first.bytes directory
    ∷ row 3 (after_of both (last 251 37)).second.bytes messages
    -- a page after it, the directory's root, which doesn't count: stored
    ∷ row 4 (told both (last 252 37)) (2 ∷ 0x40001200 ∷ 0x28000000 ∷ 2 ∷ [])
    ∷ row 5 (after_of both (last 252 37)).first.bytes (set directory 0x1204 32)
    -- "or its message entry", which is at the end of its page, and the file at its start; a page after it: stored
    ∷ row 6 (told both (last 255 37)) (refusal 2012)
    ∷ row 7 (told both (last 253 37)) (2 ∷ 0x50001800 ∷ 0x28000000 ∷ 3 ∷ [])
    -- "This comes after 2007": a file in neither window; and a discard comes before both
    ∷ row 8 (told both (last 254 37)) (refusal 2007)
    ∷ row 9 (told both (last 255 2048)) (3 ∷ 0 ∷ 0 ∷ 0 ∷ [])
    -- context and entry in one page, and a page after it; a take of a file over tables is none of this
    ∷ row 10 (told together (near 4)) (refusal 2012)
    ∷ row 11 (told together (near 5)) (2 ∷ 0x40001000 ∷ 0x28000000 ∷ 8 ∷ [])
    ∷ row 12 (told together (take 0x40000000 0)) (6 ∷ 1 ∷ 0 ∷ 0 ∷ [])
    ∷ []
