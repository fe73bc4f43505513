-- The two stages of translation (003, step 17 and step 19; Priv, "Two-Stage Address Translation").
use Rattle.std.specs.Prelude.{ℕ, Ok, None, Some}
use Rattle.std.specs.declared.option.Option.{Option}
use Rattle.memory.specs.Walk.{Walk, done}
use Rattle.causes.specs.declared.Access.{Access}
use Rattle.paging.specs.Table.{StageTable}
use Rattle.paging_entry.specs.declared.Purpose.{Purpose}
use Rattle.paging_entry.specs.declared.Purpose.TheVariants.{FirstStage, FirstStageEntry}
use Rattle.paging_entry.specs.declared.Pages.{Pages}
use Rattle.paging_entry.specs.declared.Pages.TheVariants.{User}
use Rattle.paging_entry.specs.declared.Lookup.{Lookup}
use Rattle.paging_entry.specs.Purpose.{Translation}
use Rattle.paging.specs.Levels.{walk_of}

-- an entry that lies where its address says
abbrev pub direct : ℕ → Walk Translation
direct a = done (Ok a)

-- "Second stage: U = 1 always"
abbrev pub guest_lookup : Purpose → Access → ℕ → Lookup
guest_lookup p x a = record { address = a; access = x; purpose = p; pages = User }

-- a guest address, by the second stage; unchanged where that is Bare
unfoldable pub second_stage_of : Option StageTable → Purpose → Access → ℕ → Walk Translation
second_stage_of None p x a = done (Ok a)
second_stage_of (Some g) p x a = walk_of g.scheme (guest_lookup p x a) direct g.root

-- "First-stage entries lie at guest addresses when the second stage is on"
abbrev pub entry_place : Option StageTable → Lookup → ℕ → Walk Translation
entry_place g q a = second_stage_of g FirstStageEntry q.access a

abbrev pub device_lookup : Access → Pages → ℕ → Lookup
device_lookup x pages a = record { address = a; access = x; purpose = FirstStage; pages = pages }

-- the device's address, by the first stage; unchanged where that is Bare
unfoldable pub first_stage_of : Option StageTable → Option StageTable → Access → Pages → ℕ → Walk Translation
first_stage_of None g x pages a = done (Ok a)
first_stage_of (Some f) g x pages a = walk_of f.scheme (device_lookup x pages a) (entry_place g (device_lookup x pages a)) f.root
