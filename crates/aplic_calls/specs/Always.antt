-- What document 002 says of every source at any time.
use Rattle.std.specs.Prelude.{ℕ, ◌<◌, Bool, false, not, ◌&&◌, ◌≡◌}
use Rattle.hart.specs.Hart.{priority}
use Rattle.source.specs.declared.Delivery.{Delivery}
use Rattle.source.specs.declared.Delivery.TheVariants.{Direct, Message}
use Rattle.source.specs.declared.Mode.{Mode}
use Rattle.source.specs.declared.Mode.TheVariants.{Inactive, Detached, Edge1, Edge0, Level1, Level0}
use Rattle.source.specs.declared.Source.{Source}
use Rattle.source.specs.Source.{rectified}
use Rattle.source.specs.Table.{Table}

-- 4.1.7: in direct delivery mode "the pending bit for a level-sensitive source is always just a copy of the rectified input value"; "Even in MSI delivery mode,
-- the pending bit for a level-sensitive source is never set (= 1) when the rectified input value is low"
abbrev pub LevelSound : Delivery → Bool → Bool → Type 0
LevelSound Direct input pending = pending ≡ input
LevelSound Message input pending = pending && not input ≡ false

-- 4.1.5.16.1: "Only values 1 through 2^IPRIOLEN - 1 are allowed for IPRIO, not zero"
abbrev pub PrioritySound : Delivery → ℕ → Type 0
PrioritySound Direct target = 0 < priority target
PrioritySound Message target = Unit {0}

-- 4.1.5.2: "Whenever interrupt source is inactive in an interrupt domain, the corresponding interrupt-pending and interrupt-enable bits within the domain are
-- read-only zeros, and register target is also read-only zero"
abbrev pub SoundAs : Delivery → Mode → Source → Type 0
SoundAs d Inactive s = (s.pending ≡ false) × (s.enable ≡ false) × (s.target ≡ 0)
SoundAs d Detached s = PrioritySound d s.target
SoundAs d Edge1 s = PrioritySound d s.target
SoundAs d Edge0 s = PrioritySound d s.target
SoundAs d Level1 s = LevelSound d (rectified Level1 s.wire) s.pending × PrioritySound d s.target
SoundAs d Level0 s = LevelSound d (rectified Level0 s.wire) s.pending × PrioritySound d s.target

abbrev pub Sound : Table → Type 0
Sound t = (i : ℕ) → SoundAs t.delivery (t.row i).mode (t.row i)
