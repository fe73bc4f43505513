-- The walk as the code makes it, by steps that carry no cause, and bounds that sums need. Nothing that a reader has to believe: `paging.LevelsLaws.raw_walk_lem` shows that it says what `Levels` says.
use Rattle.std.specs.Prelude.{◌≡◌, ℕ, zero, suc, ◌+◌, ◌*◌, ◌^◌, ◌<◌, ◌≤◌, Err, None, Ok}
use Rattle.memory.specs.Choice.{pick}
use Rattle.memory.specs.Load.{Load}
use Rattle.memory.specs.Walk.{Walk, done, load, bind, run}
use Rattle.memory.specs.Window.{Window, load_in}
use Rattle.paging_scheme.specs.declared.Scheme.{Scheme}
use Rattle.paging_scheme.specs.Scheme.{levels_of, legal_of, page_bits_of, index_of}
use Rattle.paging_entry.specs.declared.LeafTest.{LeafTest}
use Rattle.paging_entry.specs.declared.Raw.{Raw}
use Rattle.paging_entry.specs.declared.Raw.TheVariants.{Arrive, Next, Faulty, Unread}
use Rattle.paging_entry.specs.Purpose.{Translation}
use Rattle.paging_entry.specs.declared.Lookup.{Lookup}
use Rattle.paging_entry.specs.Purpose.{Step}
use Rattle.std.specs.declared.ops.ControlFlow.TheVariants.{Break, Continue}
use Rattle.paging_entry.specs.Code.{raw_load, faulty_end, code_of}
use Rattle.paging.specs.Levels.{on_place, on_step, levels}
use Rattle.paging.specs.declared.Stand.{Stand}
use Rattle.paging.specs.declared.Stand.TheVariants.{End, Left}

abbrev pub on_raw : (ℕ → Walk Raw) → Raw → Walk Raw
on_raw next (Next table) = next table
on_raw next (Arrive a) = done (Arrive a)
on_raw next Faulty = done Faulty
on_raw next Unread = done Unread

-- a walk of entries that lie where their addresses say
module _ (s : Scheme) (t : LeafTest) (a : ℕ) where
  unfoldable pub raw_levels : ℕ → ℕ → Walk Raw
  unfolding raw_load
  raw_levels zero table = done Faulty
  raw_levels (suc n) table = load (table * 4096 + 8 * index_of s a n) (λ v. on_raw (raw_levels n) (raw_load t a n v))

  -- the whole of it, the address looked at first
  unfoldable pub raw_walk : ℕ → Walk Raw
  unfolding raw_levels
  raw_walk root = pick (legal_of s a) (raw_levels (levels_of s) root) (done Faulty)

  -- from the place of an entry of level n on
  abbrev pub raw_from : ℕ → ℕ → Walk Raw
  raw_from n at = load at (λ v. on_raw (raw_levels n) (raw_load t a n v))

  -- the same walk in one window w: where it stands once it ends, or comes to an entry that w doesn't hold
  module _ (w : Window) where
    abbrev pub on_near : (ℕ → Stand) → ℕ → ℕ → Raw → Stand
    on_near next n at (Next table) = next table
    on_near next n at (Arrive p) = End p
    on_near next n at Faulty = End faulty_end
    on_near next n at Unread = Left n (page_bits_of n) at

    unfoldable pub near_walk : ℕ → ℕ → Stand
    unfolding raw_load
    near_walk zero at = on_near (λ table. End faulty_end) zero at (raw_load t a zero (load_in w at None))
    near_walk (suc n) at = on_near (λ table. near_walk n (table * 4096 + 8 * index_of s a n)) (suc n) at (raw_load t a (suc n) (load_in w at None))

  -- the end of the whole walk, from there on
  abbrev pub resumed : (ℕ → Load) → Stand → ℕ
  resumed m (End end) = end
  resumed m (Left n shift at) = code_of (run m (raw_from n at))

-- a level that the scheme has, with its shift
abbrev pub Standing : Scheme → Stand → Type 0
Standing s (End end) = Unit {0}
Standing s (Left n shift at) = (n < 5) × (n < levels_of s) × (shift ≡ page_bits_of n)

-- an address that an entry gives
abbrev pub Near : Translation → Type 0
Near (Ok p) = p < 2 ^ 57
Near (Err f) = Unit {0}

-- an address that an entry gives, or the address a itself
abbrev pub Within : ℕ → Translation → Type 0
Within a (Ok p) = p ≤ a + 2 ^ 57
Within a (Err f) = Unit {0}

-- the page of a table is one that an entry can hold
abbrev pub Small : Step → Type 0
Small (Break t) = Near t
Small (Continue table) = table < 2 ^ 44

-- the walk of any tables from an entry's address on: one level, and all from level n
module _ (q : Lookup) (locate : ℕ → Walk Translation) where
  unfoldable pub step_at : ℕ → ℕ → Walk Step
  step_at n at = bind (locate at) (on_place q n)

  unfoldable pub levels_at : Scheme → ℕ → ℕ → Walk Translation
  levels_at s n at = bind (step_at n at) (on_step (levels s q locate n))
