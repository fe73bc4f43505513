-- One interrupt source of a domain, after document 002, sections 4.1.5.2, 4.1.5.16 and 4.1.7; over both delivery modes.
use Rattle.std.specs.Prelude.{ℕ, ◌+◌, ◌*◌, ◌/◌, ◌%◌, ◌^◌, Bool, true, false, not, ◌&&◌, ◌||◌, eqb}
use Rattle.memory.specs.Bits.{bit, bits}
use Rattle.memory.specs.Choice.{pick}
use Rattle.source.specs.declared.Delivery.{Delivery}
use Rattle.source.specs.declared.Delivery.TheVariants.{Direct, Message}
use Rattle.source.specs.declared.Mode.{Mode}
use Rattle.source.specs.declared.Mode.TheVariants.{Inactive, Detached, Edge1, Edge0, Level1, Level0}
use Rattle.source.specs.declared.Source.{Source}

-- ---- source modes (4.1.5.2, Table 2)
abbrev pub number_of : Mode → ℕ
number_of Inactive = 0
number_of Detached = 1
number_of Edge1 = 4
number_of Edge0 = 5
number_of Level1 = 6
number_of Level0 = 7

-- 2 and 3 are reserved: "a reserved source mode is kept as 0" (02)
abbrev pub by_number : ℕ → Mode
by_number n =
    pick (eqb n 1) Detached
    (pick (eqb n 4) Edge1 (pick (eqb n 5) Edge0 (pick (eqb n 6) Level1 (pick (eqb n 7) Level0 Inactive))))

-- "For such a leaf domain, attempting to write a sourcecfg register with a value that has bit 10 = 1 causes the entire register to be set to zero"
abbrev pub mode_of : ℕ → Mode
mode_of v = pick (bit v 10) Inactive (by_number (bits v 2 0))

abbrev pub active_of : Mode → Bool
active_of Inactive = false
active_of Detached = true
active_of Edge1 = true
active_of Edge0 = true
active_of Level1 = true
active_of Level0 = true

-- "rectified input value = (incoming wire value) XOR (source is inverted)"; "For a source that is inactive or Detached, the rectified input value is zero"
abbrev pub rectified : Mode → Bool → Bool
rectified Inactive w = false
rectified Detached w = false
rectified Edge1 w = w
rectified Edge0 w = not w
rectified Level1 w = w
rectified Level0 w = not w

abbrev pub input_of : Source → Bool
input_of s = rectified s.mode s.wire

-- ---- the pending bit (4.1.7)
-- what may set or clear it
pub data Event : Type 0 where
  -- the rectified input was the first value and is now the second
  input : Bool → Bool → Event
  -- "a relevant write to a setip or setipnum register", with the rectified input at that time
  setip : Bool → Event
  -- "a relevant write to an in_clrip register or to clripnum"
  clrip : Event
  -- "the interrupt is claimed at the APLIC or forwarded by MSI"
  delivered : Event

-- "a low-to-high transition in the rectified input value"
abbrev pub rises : Bool → Bool → Bool
rises was now = now && not was

-- Detached: "set to one only by a relevant write to a setip or setipnum register"
abbrev pub detached_sets : Event → Bool
detached_sets (input was now) = false
detached_sets (setip i) = true
detached_sets clrip = false
detached_sets delivered = false

-- Edge1, Edge0: "set to one by a low-to-high transition in the rectified input value, or by a relevant write to a setip or setipnum register"
abbrev pub edge_sets : Event → Bool
edge_sets (input was now) = rises was now
edge_sets (setip i) = true
edge_sets clrip = false
edge_sets delivered = false

-- Level1, Level0, direct: "set to one whenever the rectified input value is high", "cannot be set by a write to a setip or setipnum register";
-- message: "set to one by a low-to-high transition", "may also be set by a relevant write to a setip or setipnum register when the rectified input value is high, but not when the rectified input value is low"
abbrev pub level_sets : Delivery → Event → Bool
level_sets Direct (input was now) = now
level_sets Direct (setip i) = false
level_sets Message (input was now) = rises was now
level_sets Message (setip i) = i
level_sets d clrip = false
level_sets d delivered = false

-- Detached, Edge1, Edge0: "cleared when the interrupt is claimed at the APLIC or forwarded by MSI, or by a relevant write to an in_clrip register or to clripnum"
abbrev pub edge_clears : Event → Bool
edge_clears (input was now) = false
edge_clears (setip i) = false
edge_clears clrip = true
edge_clears delivered = true

-- Level1, Level0, direct: "cleared whenever the rectified input value is low", "not cleared by a claim of the interrupt at the APLIC, nor can it be cleared by a write";
-- message: "cleared whenever the rectified input value is low, when the interrupt is forwarded by MSI, or by a relevant write to an in_clrip register or to clripnum"
abbrev pub level_clears : Delivery → Event → Bool
level_clears d (input was now) = not now
level_clears d (setip i) = false
level_clears Direct clrip = false
level_clears Direct delivered = false
level_clears Message clrip = true
level_clears Message delivered = true

-- an inactive source's pending bit is a "read-only" zero
abbrev pub sets : Delivery → Mode → Event → Bool
sets d Inactive e = false
sets d Detached e = detached_sets e
sets d Edge1 e = edge_sets e
sets d Edge0 e = edge_sets e
sets d Level1 e = level_sets d e
sets d Level0 e = level_sets d e

abbrev pub clears : Delivery → Mode → Event → Bool
clears d Inactive e = false
clears d Detached e = edge_clears e
clears d Edge1 e = edge_clears e
clears d Edge0 e = edge_clears e
clears d Level1 e = level_clears d e
clears d Level0 e = level_clears d e

abbrev pub new_pending : Delivery → Mode → Event → Bool → Bool
new_pending d m e p = not (clears d m e) && (sets d m e || p)

-- ---- what each kind of call does to a source
abbrev pub with_pending : Bool → Source → Source
with_pending p s = record { mode = s.mode; wire = s.wire; pending = p; enable = s.enable; target = s.target }

abbrev pub befalls : Delivery → Event → Source → Source
befalls d e s = with_pending (new_pending d s.mode e s.pending) s

-- its wire takes a level
unfoldable pub sensed : Delivery → Bool → Source → Source
sensed d w s =
    record {
      mode = s.mode;
      wire = w;
      pending = new_pending d s.mode (input (input_of s) (rectified s.mode w)) s.pending;
      enable = s.enable;
      target = s.target;
    }

-- a relevant write of setip or setipnum
unfoldable pub raised : Delivery → Source → Source
raised d s = befalls d (setip (input_of s)) s

-- a relevant write of in_clrip or clripnum
unfoldable pub lowered : Delivery → Source → Source
lowered d s = befalls d clrip s

-- its interrupt is claimed or forwarded
unfoldable pub handed : Delivery → Source → Source
handed d s = befalls d delivered s

-- a relevant write of setie or setienum (true), of clrie or clrienum (false): the enable bit of an inactive source is a "read-only" zero
unfoldable pub allowed : Bool → Source → Source
allowed on s =
    record {
      mode = s.mode;
      wire = s.wire;
      pending = s.pending;
      enable = pick on (active_of s.mode || s.enable) false;
      target = s.target;
    }

-- ---- a write of sourcecfg (4.1.5.2)
-- by the new mode and its rectified input. "A sourcecfg write sets pending exactly when the new rectified input is high" (02); "will not by itself cause
-- a pending bit to be cleared except when the source is made inactive"; a level-sensitive source's is "cleared whenever the rectified input value is low" (4.1.7)
abbrev pub configured_pending : Mode → Bool → Bool → Bool
configured_pending Inactive i p = false
configured_pending Detached i p = p
configured_pending Edge1 i p = i || p
configured_pending Edge0 i p = i || p
configured_pending Level1 i p = i
configured_pending Level0 i p = i

-- "a source made active starts with target 0" (02); in direct delivery "a priority 0, written or at activation, is kept as 1"
abbrev pub first_target : Delivery → ℕ
first_target Direct = 1
first_target Message = 0

-- by the old mode and the new one; an inactive source's is a "read-only zero"
abbrev pub configured_target : Delivery → Mode → Mode → ℕ → ℕ
configured_target d old new t = pick (active_of new) (pick (active_of old) t (first_target d)) 0

unfoldable pub configured : Delivery → ℕ → Source → Source
configured d v s =
    record {
      mode = mode_of v;
      wire = s.wire;
      pending = configured_pending (mode_of v) (rectified (mode_of v) s.wire) s.pending;
      enable = active_of (mode_of v) && s.enable;
      target = configured_target d s.mode (mode_of v) s.target;
    }

-- ---- a write of target (4.1.5.16)
-- bits 31:18 hart index; direct: bits 7:0 priority, 0 kept as 1; message: bits 17:12 guest index, 10:0 identity, "Bit 11 is reserved and reads as zero"
abbrev pub target_of : Delivery → ℕ → ℕ
target_of Direct v = bits v 31 18 * 2 ^ 18 + pick (eqb (bits v 7 0) 0) 1 (bits v 7 0)
target_of Message v = bits v 31 12 * 2 ^ 12 + bits v 10 0

-- "If interrupt source is inactive in this domain, register target is read-only zero"
abbrev pub aimed_target : Delivery → Mode → ℕ → ℕ → ℕ
aimed_target d m v t = pick (active_of m) (target_of d v) t

unfoldable pub aimed : Delivery → ℕ → Source → Source
aimed d v s =
    record {
      mode = s.mode;
      wire = s.wire;
      pending = s.pending;
      enable = s.enable;
      target = aimed_target d s.mode v s.target;
    }

-- ---- how the code asks for the delivery mode
abbrev pub direct_of : Delivery → Bool
direct_of Direct = true
direct_of Message = false

-- ---- how the code keeps a mode: the three bits of its number
abbrev pub wired_of : Mode → Bool
wired_of m = eqb (number_of m / 4 % 2) 1

abbrev pub level_of : Mode → Bool
level_of m = eqb (number_of m / 2 % 2) 1

abbrev pub low_of : Mode → Bool
low_of m = eqb (number_of m % 2) 1

abbrev pub mode_from : Bool → Bool → Bool → Mode
mode_from true true low = pick low Level0 Level1
mode_from true false low = pick low Edge0 Edge1
mode_from false level low = pick low Detached Inactive
