-- The walk by steps without causes says what the walk of the definitions says. Assumes nothing.
use Rattle.std.proofs.Common.{◌≡◌, ℕ, zero, suc, Bool, true, false, refl, ap, ◌∙◌}
use Rattle.memory.specs.Choice.{pick}
use Rattle.memory.specs.Load.{Load}
use Rattle.memory.specs.Walk.{Walk, done, run}
use Rattle.paging_scheme.specs.declared.Scheme.{Scheme}
use Rattle.paging_entry.specs.declared.Lookup.{Lookup}
use Rattle.paging_entry.specs.Purpose.{Step}
use Rattle.paging_entry.specs.declared.Raw.{Raw}
use Rattle.paging_entry.specs.declared.Raw.TheVariants.{Arrive, Next, Faulty, Unread}
use Rattle.paging_scheme.specs.Scheme.{levels_of, legal_of}
use Rattle.paging_entry.specs.Purpose.{asked_of}
use Rattle.paging_entry.specs.Entry.{faulted}
use Rattle.paging.specs.Levels.{on_step, entry_at, level_step, levels, walk_of}
use Rattle.paging.specs.Stages.{direct}
use Rattle.paging_entry.proofs.EntryLaws.{tested}
use Rattle.paging_entry.specs.Code.{test_of, raw_load, to_step, told_of}
use Rattle.paging.specs.Code.{on_raw, raw_levels, raw_walk}

-- a walk of entries that lie where their addresses say
module _ (m : ℕ → Load) (s : Scheme) (q : Lookup) where
  abbrev raws : ℕ → ℕ → Walk Raw
  raws n table = raw_levels s (test_of (asked_of q.purpose q.access) q.pages) q.address n table

  raw_turn : (n : ℕ) → ((t : ℕ) → told_of q.purpose q.access (run m (raws n t)) ≡ run m (levels s q direct n t))
      → (r : Raw) → told_of q.purpose q.access (run m (on_raw (raws n) r)) ≡ run m (on_step (levels s q direct n) (to_step q.purpose q.access r))
  raw_turn n h (Arrive a) = refl
  raw_turn n h (Next t) = h t
  raw_turn n h Faulty = refl
  raw_turn n h Unread = refl

  pub raw_walk_lem : (n table : ℕ) → told_of q.purpose q.access (run m (raws n table)) ≡ run m (levels s q direct n table)
  unfolding raw_levels levels level_step
  raw_walk_lem zero table = refl
  raw_walk_lem (suc n) table =
      raw_turn n (raw_walk_lem n) (raw_load (test_of (asked_of q.purpose q.access) q.pages) q.address n (m (entry_at s q n table)))
      ∙ ap (λ (k : Step). run m (on_step (levels s q direct n) k)) (tested q n (m (entry_at s q n table)))

  pub raw-whole : (root : ℕ) → told_of q.purpose q.access (run m (raw_walk s (test_of (asked_of q.purpose q.access) q.pages) q.address root)) ≡ run m (walk_of s q direct root)
  unfolding raw_walk walk_of
  raw-whole root = go (legal_of s q.address)
    where
      go : (b : Bool) → told_of q.purpose q.access (run m (pick b (raws (levels_of s) root) (done Faulty))) ≡ run m (pick b (levels s q direct (levels_of s) root) (done (faulted q)))
      go true = raw_walk_lem (levels_of s) root
      go false = refl
