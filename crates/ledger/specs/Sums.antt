-- Sums over the 2,048 identities of each file of a list, and what the calls of a history add up to: stores to those files, successful takes from them.
use Rattle.std.specs.Prelude.{ℕ, zero, suc, ◌+◌, ◌≡◌, Bool, true, false, ◌&&◌, ◌||◌, List, [], ◌∷◌, eqb}
use Rattle.std.specs.Int.Count.{ones}
use Rattle.memory.specs.Choice.{pick}
use Rattle.memory.specs.Window.{Lent}
use Rattle.iommu_files.specs.declared.Numbers.{Numbers}
use Rattle.iommu.specs.Operations.{Op, request, take, take_many}
use Rattle.ledger.specs.Places.{Place, same_place, is_place}
use Rattle.ledger.specs.Machine.{Asked, asks, asks_nothing, Machine, Call}

-- g 0 + .. + g (k - 1)
unfoldable pub sum_to : ℕ → (ℕ → ℕ) → ℕ
sum_to zero g = 0
sum_to (suc k) g = g k + sum_to k g

-- "a sum over files adds up their 2,048 identities each"
unfoldable pub of_file : (ℕ → ℕ) → ℕ
of_file g = sum_to 2048 g

unfoldable pub total : List Place → (Place → ℕ → ℕ) → ℕ
total [] g = 0
total (p ∷ ps) g = of_file (g p) + total ps g

-- whether a file of one window is in a list; a list of different ones; and whether a file's address is there
abbrev pub listed : List Place → Place → Bool
listed [] p = false
listed (q ∷ qs) p = same_place p q || listed qs p

abbrev pub Different : List Place → Type 0
Different [] = Unit {0}
Different (p ∷ ps) = (listed ps p ≡ false) × Different ps

abbrev pub among : List Place → ℕ → Bool
among [] file = false
among (p ∷ ps) file = eqb file p.file || among ps file

-- all are files of what is lent
abbrev pub Places : Lent → List Place → Type 0
Places l [] = Unit {0}
Places l (p ∷ ps) = (is_place l p ≡ true) × Places l ps

-- how many stores a call is to some files: "A request answered 2 is a store: its file is the answer's first number"
abbrev pub op_stores : (ℕ → Bool) → Op → Numbers → ℕ
op_stores these (request mode root q d) a = pick (eqb a.kind 2 && these a.first) 1 0
op_stores these (take f i) a = 0
op_stores these (take_many f d mask) a = 0

-- how many successful takes from them: "A take answered 6 with 1 is a successful take of the file and identity that it gives"; of many, "each answered bit is one successful take" (02, Req 12)
abbrev pub op_takes : (ℕ → Bool) → Op → Numbers → ℕ
op_takes these (request mode root q d) a = 0
op_takes these (take f i) a = pick (eqb a.kind 6 && (eqb a.first 1 && these f)) 1 0
op_takes these (take_many f d mask) a = pick (eqb a.kind 6 && these f) (ones a.first) 0

-- of a call that asks an operation; another is none
abbrev pub asked_weight : (Op → Numbers → ℕ) → Asked → Numbers → ℕ
asked_weight w (asks o) a = w o a
asked_weight w asks_nothing a = 0

-- what the calls of a history add up to
unfoldable pub added_up : {O : Type 0} → Machine O → (Op → Numbers → ℕ) → List (Call O) → ℕ
added_up m w [] = 0
added_up m w (c ∷ cs) = asked_weight w (m.asked c.op) c.answer + added_up m w cs
