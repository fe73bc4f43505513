-- Req 02 of document 02 in one table: each privilege under each SUM, on a page with each U, by each access.
use Rattle.std.specs.Prelude.{ℕ, ◌-◌, Bool, true, false, List, [], ◌∷◌, ◌++◌, replicate, Some}
use Rattle.memory.specs.Choice.{pick}
use Rattle.causes.specs.declared.Access.{Access}
use Rattle.causes.specs.declared.Access.TheVariants.{Read, Write, Execute}
use Rattle.iommu_refusals.specs.declared.DeviceRequest.{DeviceRequest}
use Rattle.iommu.specs.Request.{request_of}
use Rattle.worked_rows.specs.Memory.{words, in_mode}
use Rattle.worked_rows.specs.Rows.{Row, row, one, shown}

-- three pages: device 0 with a PD8 process directory and no second stage; process 0 with ENS, process 1 with ENS and SUM; their one table, a 1 GiB page with U = 0, then one with U = 1, each with V, R, W, X, A, D
unfoldable pub bytes : List ℕ
unfolding words
bytes =
    words (0x21 ∷ 0 ∷ 0 ∷ 0x1000000000040001 ∷ [])
    ++ (replicate (4096 - 32) 0
    ++ (words (3 ∷ 0x8000000000040002 ∷ 7 ∷ 0x8000000000040002 ∷ [])
    ++ (replicate (4096 - 32) 0 ++ (words (0x200000CF ∷ 0x300000DF ∷ []) ++ replicate (4096 - 16) 0))))

-- by a supervisor or a user, under this SUM, on the page with this U
abbrev asks : Bool → Bool → Bool → Access → DeviceRequest
asks supervisor sum u x =
    record {
      device = 0;
      process = Some (one sum);
      supervisor = supervisor;
      access = x;
      address = pick u 0x40001234 0x1234;
      length = 4;
    }

abbrev answer_to : Bool → Bool → Bool → Access → List ℕ
answer_to supervisor sum u x = shown (request_of (in_mode 2) bytes [] (asks supervisor sum u x) 0)

-- translated, to the page with this U
abbrev admitted : Bool → List ℕ
admitted u = 0 ∷ pick u 0xC0001234 0x80001234 ∷ 0 ∷ 0 ∷ []

-- a page fault of the first stage
abbrev barred : ℕ → List ℕ
barred cause = 4 ∷ cause ∷ 0 ∷ 0 ∷ 2 ∷ []

unfoldable pub supervisors : List Row
supervisors =  -- a supervisor without SUM: its own pages, U = 0
    row 1 (answer_to true false false Read) (admitted false)
    ∷ row 2 (answer_to true false false Write) (admitted false)
    ∷ row 3 (answer_to true false false Execute) (admitted false)
    ∷ row 4 (answer_to true false true Read) (barred 13)
    ∷ row 5 (answer_to true false true Write) (barred 15)
    ∷ row 6 (answer_to true false true Execute) (barred 12)
    -- under SUM: user pages too, "read-for-execute stays barred"
    ∷ row 7 (answer_to true true false Read) (admitted false)
    ∷ row 8 (answer_to true true false Write) (admitted false)
    ∷ row 9 (answer_to true true false Execute) (admitted false)
    ∷ row 10 (answer_to true true true Read) (admitted true)
    ∷ row 11 (answer_to true true true Write) (admitted true)
    ∷ row 12 (answer_to true true true Execute) (barred 12)
    -- a user, whatever SUM is: U = 1
    ∷ row 13 (answer_to false false false Read) (barred 13)
    ∷ row 14 (answer_to false false false Write) (barred 15)
    ∷ row 15 (answer_to false false false Execute) (barred 12)
    ∷ row 16 (answer_to false false true Read) (admitted true)
    ∷ row 17 (answer_to false false true Write) (admitted true)
    ∷ row 18 (answer_to false false true Execute) (admitted true)
    ∷ row 19 (answer_to false true false Read) (barred 13)
    ∷ row 20 (answer_to false true false Write) (barred 15)
    ∷ row 21 (answer_to false true false Execute) (barred 12)
    ∷ row 22 (answer_to false true true Read) (admitted true)
    ∷ row 23 (answer_to false true true Write) (admitted true)
    ∷ row 24 (answer_to false true true Execute) (admitted true)
    ∷ []
