-- THE LEDGER CLOSES for any list of C calls: requests and takes, of one and of many, in any order, with any buffers, accesses and flags. Assumes nothing.
use Prim.Native.Nat.{ℕ, ◌≤◌}
use mathlib.Core.Path.{◌≡◌, refl}
use mathlib.Core.Bool.{Bool, true, false}
use mathlib.Core.List.{List, [], ◌∷◌}
use native.Mathlib.Omega.{arith}
use borrow.Author.Tests.{ltb-false}
use lib.Dec.{ltb}
use lib.ListN.{length}
use Rattle.std.specs.Prelude.{Option, Some, None}
use Rattle.refusal.specs.declared.Refusal.TheVariants.{UnknownNumber}
use Rattle.memory.specs.Choice.{pick}
use Rattle.causes.specs.declared.Access.{Access}
use Rattle.iommu_refusals.specs.declared.DeviceRequest.{DeviceRequest}
use Rattle.iommu_files.specs.declared.Answer.{Answer}
use Rattle.iommu_files.specs.Answers.{numbers_of, refused}
use Rattle.memory.specs.Window.{Lent}
use Rattle.iommu.specs.Operations.{Op, request, take, take_many, answer_of, after_of}
use Rattle.ledger.specs.Machine.{asks, asks_nothing, AllGranted}
use Rattle.ledger.specs.Closes.{Closes}
use Rattle.ledger.proofs.Keeping.{Faith, Faithful}
use Rattle.ledger.proofs.Closing.{closes_of}
use Rattle.capi_room.specs.Room.{status, fitting}
use Rattle.capi_iommu.specs.Face.{chosen_of, asked, with_answer, chosen_face, chosen_bytes, request_face, after_face}
use Rattle.capi_iommu.specs.Calls.{CCall, requested, taken, taken_many}
use Rattle.capi_ledger.specs.CCalls.{chosen_asked, numbers_told, functions}

-- an answer that was put into a buffer with room is read from it
words-told : (out : List ℕ) (a : Answer) → 5 ≤ length out → numbers_told 0 (with_answer out a) ≡ numbers_of a
words-told [] a l = absurd (omega arith)
words-told (v ∷ []) a l = absurd (omega arith)
words-told (v ∷ w ∷ []) a l = absurd (omega arith)
words-told (v ∷ w ∷ x ∷ []) a l = absurd (omega arith)
words-told (v ∷ w ∷ x ∷ y ∷ []) a l = absurd (omega arith)
words-told (v ∷ w ∷ x ∷ y ∷ z ∷ out) a l = refl

room : (out : List ℕ) → ltb (length out) 5 ≡ false → 5 ≤ length out
room out e = ltb-false (length out) 5 e

-- a request, by the room of its buffer and by what its numbers name
module _ (l : Lent) (mode root device process flags access address len value : ℕ) (out : List ℕ) where
  abbrev req : Access → DeviceRequest
  req x = asked device process flags address len x

  abbrev op : Access → Op
  op x = request mode root (req x) value

  known : (x : Access) (f : Bool) → 5 ≤ length out
      → Faith (pick f asks_nothing (asks (op x))) (numbers_told 0 (with_answer out (pick f (refused UnknownNumber) (answer_of l (op x))))) (pick f l (after_of l (op x))) l
  known x true r = ((2010, words-told out (refused UnknownNumber) r), refl)
  known x false r = (words-told out (answer_of l (op x)) r, refl)

  request_faith : (b : Bool) → ltb (length out) 5 ≡ b → (k : Option Access)
      → Faith (pick b asks_nothing (chosen_asked (ltb 3 flags) k op))
      (numbers_told (pick b 1 0) (pick b out (with_answer out (chosen_face l mode root device process flags access address len value k))))
      (pick b l (chosen_bytes l mode root device process flags access address len value k)) l
  request_faith true e k = ((0, refl), refl)
  request_faith false e None = ((2010, words-told out (refused UnknownNumber) (room out e)), refl)
  request_faith false e (Some x) = known x (ltb 3 flags) (room out e)

-- a take of either kind
take_faith : (l : Lent) (o : Op) (out : List ℕ) (b : Bool) → ltb (length out) 5 ≡ b
    → Faith (pick b asks_nothing (asks o)) (numbers_told (pick b 1 0) (pick b out (with_answer out (answer_of l o)))) (pick b l (after_of l o)) l
take_faith l o out true e = ((0, refl), refl)
take_faith l o out false e = (words-told out (answer_of l o) (room out e), refl)

pub functions_faithful : Faithful functions
unfolding status fitting request_face after_face
functions_faithful l (requested mode root device process flags access address len value out) g =
    request_faith l mode root device process flags access address len value out _ refl (chosen_of access)
functions_faithful l (taken file n out) g = take_faith l (take file n) out _ refl
functions_faithful l (taken_many file d mask out) g = take_faith l (take_many file d mask) out _ refl

functions_granted : (l : Lent) (cs : List CCall) → AllGranted functions l cs
unfolding AllGranted
functions_granted l [] = tt
functions_granted l (c ∷ cs) = (tt, functions_granted (functions.after l c) cs)

pub functions-close : (l : Lent) (cs : List CCall) → Closes functions l cs
functions-close l cs = closes_of functions functions_faithful l cs (functions_granted l cs)
