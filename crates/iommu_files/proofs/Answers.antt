-- An answer's numbers. Assumes nothing.
use mathlib.Core.Path.{◌≡◌, sym, ap, ◌∙◌}
use Rattle.iommu_files.specs.declared.Answer.{Answer}
use Rattle.iommu_files.specs.declared.Numbers.{Numbers}
use Rattle.iommu_files.specs.Answers.{numbers_of, Answered}

-- by its case
pub numbers_are : (a b : Answer) (n : Numbers) → a ≡ b → n ≡ numbers_of b → n ≡ numbers_of a
numbers_are a b n e h = h ∙ sym (ap numbers_of e)

-- an answer that is the one promised has its numbers too
pub answered : (r a : Answer) → r ≡ a → Answered r a
answered r a e = record { same = e; numbered = ap numbers_of e }
