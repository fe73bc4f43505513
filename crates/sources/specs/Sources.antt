-- Which table of separate sources the words stand for. Any words stand for one.
use Rattle.std.specs.Prelude.{ℕ, ◌<◌, Bool, ◌&&◌, ◌≡◌}
use Rattle.memory.specs.Choice.{pick}
use Rattle.word.specs.Word.{contains, is_source, lowest}
use Rattle.hart.specs.declared.Hart.{Hart}
use Rattle.source.specs.declared.Delivery.{Delivery}
use Rattle.source.specs.declared.Source.{Source}
use Rattle.source.specs.Source.{mode_from, input_of}
use Rattle.source.specs.Table.{Table, quiet}
use Rattle.sources.specs.declared.Sources.{Sources}

-- source i, with the target t that is kept for it
unfoldable pub source_of : Sources → ℕ → ℕ → Source
source_of s i t =
    record {
      mode = mode_from (contains s.wired i) (contains s.level i) (contains s.low i);
      wire = contains s.wires i;
      pending = contains s.pending i;
      enable = contains s.enable i;
      target = t;
    }

-- what the sources have in common: the delivery mode, the domain's enable, the harts' records
pub record Common : Type 0 where
  pub delivery : Delivery
  pub enable : Bool
  pub hart : ℕ → Hart

-- the table, with what the sources have in common and their targets
unfoldable pub table_with : Common → Sources → (ℕ → ℕ) → Table
table_with c s targets = record { delivery = c.delivery; enable = c.enable; row = λ i. pick (is_source i) (source_of s i (targets i)) quiet; hart = c.hart }

-- in r, each source that is chosen is what f makes of it, and each other one is as it was
unfoldable pub Acts : (ℕ → Bool) → (Source → Source) → Sources → Sources → Type 0
Acts sel f s r = (i t : ℕ) → 0 < i → i < 64 → source_of r i t ≡ pick (sel i) (f (source_of s i t)) (source_of s i t)

-- all of s but the target
abbrev pub lined : Source → Source → Source
lined s x = record { mode = s.mode; wire = s.wire; pending = s.pending; enable = s.enable; target = x.target }

-- w has the rectified inputs
unfoldable pub Inputs : Sources → ℕ → Type 0
Inputs s w = (i t : ℕ) → contains w i ≡ input_of (source_of s i t)

-- the lowest source that is pending and enabled, or 64
unfoldable pub first_waiting : Sources → ℕ
first_waiting s = lowest 63 1 (λ i. contains s.pending i && contains s.enable i)
