-- The machine of the C functions, for demand 3: what a C call asks, what it is told, and what it leaves, by the definitions that the functions' promises name.
use Rattle.std.specs.Prelude.{ℕ, Bool, List, Option, Some, None, eqb, ltb, length, get_or}
use Rattle.memory.specs.Choice.{pick}
use Rattle.causes.specs.declared.Access.{Access}
use Rattle.iommu_files.specs.declared.Numbers.{Numbers}
use Rattle.iommu_files.specs.Answers.{numbers}
use Rattle.iommu.specs.Operations.{Op, request, take, take_many}
use Rattle.ledger.specs.Machine.{Asked, asks, asks_nothing, Machine}
use Rattle.capi_iommu.specs.Face.{chosen_of, asked}
use Rattle.capi_iommu.specs.Calls.{CCall, requested, taken, taken_many, status_of, words_of, left_of}

-- an access that is none, or an unknown flag, asks nothing: it is refused with 2010
abbrev pub chosen_asked : Bool → Option Access → (Access → Op) → Asked
chosen_asked unknown None op = asks_nothing
chosen_asked unknown (Some x) op = pick unknown asks_nothing (asks (op x))

-- and so does a call whose buffer has no room for the answer
abbrev pub asked_of : CCall → Asked
asked_of (requested mode root device process flags access address len value out) =
    pick (ltb (length out) 5) asks_nothing
    (chosen_asked (ltb 3 flags) (chosen_of access) (λ x. request mode root (asked device process flags address len x) value))
asked_of (taken file n out) = pick (ltb (length out) 5) asks_nothing (asks (take file n))
asked_of (taken_many file d mask out) = pick (ltb (length out) 5) asks_nothing (asks (take_many file d mask))

-- 01's numbers, as the caller reads them: the buffer's first four words where the status is 0. A status 1 tells nothing, and stands here as a refusal without a number
abbrev pub numbers_told : ℕ → List ℕ → Numbers
numbers_told status ws = pick (eqb status 0) (numbers (get_or ws 0 0) (get_or ws 1 0) (get_or ws 2 0) (get_or ws 3 0)) (numbers 5 0 0 0)

abbrev pub functions : Machine CCall
functions =
    record {
      asked = asked_of;
      answer = λ l c. numbers_told (status_of c) (words_of l c);
      after = left_of;
      Granted = λ l c. Unit {0};
      Counts = λ l cs p. Unit {0};
    }
