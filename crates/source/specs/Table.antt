-- The table of separate sources and harts that a domain stands for.
use Rattle.std.specs.Prelude.{ℕ, Bool, false, ◌&&◌}
use Rattle.memory.specs.Choice.{pick}
use Rattle.word.specs.Word.{is_source}
use Rattle.hart.specs.declared.Hart.{Hart}
use Rattle.hart.specs.Hart.{resting}
use Rattle.source.specs.declared.Delivery.{Delivery}
use Rattle.source.specs.declared.Mode.TheVariants.{Inactive}
use Rattle.source.specs.declared.Source.{Source}

-- the delivery mode (domaincfg.DM), the domain's enable (domaincfg.IE), each source by its number, and each hart's record by its number; sources are 1 to 63, harts 0 to 15
pub record Table : Type 0 where
  pub delivery : Delivery
  pub enable : Bool
  pub row : ℕ → Source
  pub hart : ℕ → Hart

-- a source of which all is zero; what isn't a source reads so too
abbrev pub quiet : Source
quiet = record { mode = Inactive; wire = false; pending = false; enable = false; target = 0 }

-- "All state starts at zero save the delivery mode" (02)
abbrev pub start_of : Delivery → Table
start_of d = record { delivery = d; enable = false; row = λ i. quiet; hart = λ h. resting }

-- the sources that are chosen are changed, each by itself
abbrev pub act : (ℕ → Bool) → (Source → Source) → Table → Table
act sel f t = record { delivery = t.delivery; enable = t.enable; row = λ i. pick (is_source i && sel i) (f (t.row i)) (t.row i); hart = t.hart }
