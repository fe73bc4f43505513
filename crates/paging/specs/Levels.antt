-- One page-table walk over any scheme (Priv, address-translation process), as a walk of loads.
use Rattle.std.specs.Prelude.{ℕ, zero, suc, ◌+◌, ◌*◌, Err, Ok}
use Rattle.memory.specs.Choice.{pick}
use Rattle.memory.specs.Walk.{Walk, done, load, bind}
use Rattle.paging_scheme.specs.declared.Scheme.{Scheme}
use Rattle.paging_entry.specs.declared.Lookup.{Lookup}
use Rattle.paging_entry.specs.Purpose.{Translation}
use Rattle.paging_entry.specs.Purpose.{Step}
use Rattle.std.specs.declared.ops.ControlFlow.TheVariants.{Break, Continue}
use Rattle.paging_scheme.specs.Scheme.{levels_of, legal_of, index_of}
use Rattle.paging_entry.specs.Entry.{faulted, on_load}

-- step 2: the entry's address, a + va.vpn[i] x PTESIZE
abbrev pub entry_at : Scheme → Lookup → ℕ → ℕ → ℕ
entry_at s q n table = table * 4096 + 8 * index_of s q.address n

-- the entry's address where it can be reached: it is loaded and looked at
abbrev pub on_place : Lookup → ℕ → Translation → Walk Step
on_place q n (Err f) = done (Break (Err f))
on_place q n (Ok p) = load p (λ v. done (on_load q n v))

abbrev pub on_step : (ℕ → Walk Translation) → Step → Walk Translation
on_step next (Break t) = done t
on_step next (Continue table) = next table

-- `locate` leads from the address of an entry to where it lies in memory
module _ (s : Scheme) (q : Lookup) (locate : ℕ → Walk Translation) where
  unfoldable pub level_step : ℕ → ℕ → Walk Step
  level_step n table = bind (locate (entry_at s q n table)) (on_place q n)

  -- with this many levels left, from the table at a page; "a non-leaf at the last level" faults
  unfoldable pub levels : ℕ → ℕ → Walk Translation
  levels zero table = done (faulted q)
  levels (suc n) table = bind (level_step n table) (on_step (levels n))

  -- the address is looked at before any load (D22)
  unfoldable pub walk_of : ℕ → Walk Translation
  walk_of root = pick (legal_of s q.address) (levels (levels_of s) root) (done (faulted q))
