-- A table of worked cases: rows of what the definitions give, and of what the papers say.
use Rattle.std.specs.Prelude.{ℕ, Bool, true, false, ◌≡◌, List, [], ◌∷◌, ◌++◌}
use Rattle.causes.specs.Causes.{stage_number}
use Rattle.iommu_files.specs.declared.Answer.{Answer}
use Rattle.iommu_files.specs.declared.Answer.TheVariants.{Translated, Redirected, Stored, Discarded, Fault, Refused, Taken}
use Rattle.iommu_files.specs.declared.Numbers.{Numbers}
use Rattle.iommu_files.specs.Answers.{numbers_of}

-- a row: the case's number, what the definitions give, and what the papers say
pub record Row : Type 0 where
  pub case : ℕ
  pub given : List ℕ
  pub expected : List ℕ

-- every row of a table agrees
abbrev pub Agrees : List Row → Type 0
Agrees [] = Unit {0}
Agrees (r ∷ rs) = (r.given ≡ r.expected) × Agrees rs

abbrev pub one : Bool → ℕ
one true = 1
one false = 0

-- an answer as 01 numbers it, and a fault's stage after that
abbrev pub stage_shown : Answer → List ℕ
stage_shown (Fault f) = stage_number f.stage ∷ []
stage_shown (Translated a) = []
stage_shown (Redirected a) = []
stage_shown (Stored d) = []
stage_shown Discarded = []
stage_shown (Refused r) = []
stage_shown (Taken w) = []

abbrev pub listed : Numbers → List ℕ
listed n = n.kind ∷ n.first ∷ n.second ∷ n.third ∷ []

abbrev pub shown : Answer → List ℕ
shown a = listed (numbers_of a) ++ stage_shown a

abbrev pub row : ℕ → List ℕ → List ℕ → Row
row n g e = record { case = n; given = g; expected = e }
