-- Machines of calls on what is lent, and lists of calls on one memory (01, "The ledger of demand 3": "Its requests and takes all give the same window start; directory mode and root may differ"; 02: "both windows at fixed places").
use Rattle.std.specs.Prelude.{List, [], ◌∷◌}
use Rattle.iommu_files.specs.declared.Numbers.{Numbers}
use Rattle.iommu_files.specs.Answers.{numbers_of}
use Rattle.memory.specs.Window.{Lent}
use Rattle.iommu.specs.Operations.{Op, answer_of, after_of}
use Rattle.ledger.specs.Places.{Place}

-- what a call asks: an operation, or none, as a C call whose access is no access
pub data Asked : Type 0 where
  asks : Op → Asked
  asks_nothing : Asked

-- a machine: what its calls ask, what they are answered by 01's numbers, and what they leave. A step may have a premise, and so may a file that is counted in a list; the routines have none
pub record Machine (O : Type 0) : Type 1 where
  pub asked : O → Asked
  pub answer : Lent → O → Numbers
  pub after : Lent → O → Lent
  pub Granted : Lent → O → Type 0
  pub Counts : Lent → List O → Place → Type 0

-- the shipped routines
abbrev pub routines : Machine Op
routines =
    record {
      asked = asks;
      answer = λ l o. numbers_of (answer_of l o);
      after = after_of;
      Granted = λ l o. Unit {0};
      Counts = λ l ops p. Unit {0};
    }

-- a call as its caller saw it
pub record Call (O : Type 0) : Type 0 where
  pub op : O
  pub answer : Numbers

module _ {O : Type 0} (m : Machine O) where
  abbrev pub call_of : Lent → O → Call O
  call_of l o = record { op = o; answer = m.answer l o }

  -- each call gets what the last one left
  unfoldable pub left_by : Lent → List O → Lent
  left_by l [] = l
  left_by l (o ∷ os) = left_by (m.after l o) os

  unfoldable pub history : Lent → List O → List (Call O)
  history l [] = []
  history l (o ∷ os) = call_of l o ∷ history (m.after l o) os

  -- the premise of a list: that of each step
  unfoldable pub AllGranted : Lent → List O → Type 0
  AllGranted l [] = Unit {0}
  AllGranted l (o ∷ os) = m.Granted l o × AllGranted (m.after l o) os
