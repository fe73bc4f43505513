-- A hart in direct delivery, after document 002, sections 4.1.5.16.1 and 4.1.8.
use Rattle.std.specs.Prelude.{ℕ, ◌+◌, ◌*◌, ◌/◌, ◌%◌, ◌^◌, Bool, false, ◌||◌, eqb, ltb, Result, Ok, Err}
use Rattle.refusal.specs.declared.Refusal.{Refusal}
use Rattle.refusal.specs.declared.Refusal.TheVariants.{NotInDomain}
use Rattle.memory.specs.Bits.{bit, bits}
use Rattle.memory.specs.Choice.{pick}
use Rattle.register.specs.declared.HartRegister.{HartRegister}
use Rattle.register.specs.declared.HartRegister.TheVariants.{IDelivery, IForce, IThreshold, TopI}
use Rattle.hart.specs.declared.Hart.{Hart}

-- a record of which all is zero
abbrev pub resting : Hart
resting = record { delivery = false; force = false; threshold = 0 }

-- "direct delivery for harts 0 to 15 .. a call given such a hart number is refused with 2014" (02)
unfoldable pub hart_refusal : ℕ → ℕ
hart_refusal h = pick (ltb h 16) 0 2014

-- a, or the refusal of a number that the domain doesn't have, whose number is 2014
abbrev pub in_domain : {A : Type 0} → Bool → A → Result A Refusal
in_domain has a = pick has (Ok a) (Err NotInDomain)

-- ---- a write of v to a register of the record
-- "Writes keep bits 7:0 of priorities and thresholds, bit 0 of delivery and force" (02); "Writes to topi are ignored" (4.1.8.1.4)
unfoldable pub wrote_of : HartRegister → ℕ → Hart → Hart
wrote_of IDelivery v x = record { delivery = bit v 0; force = x.force; threshold = x.threshold }
wrote_of IForce v x = record { delivery = x.delivery; force = bit v 0; threshold = x.threshold }
wrote_of IThreshold v x = record { delivery = x.delivery; force = x.force; threshold = bits v 7 0 }
wrote_of TopI v x = x

-- "A read from claimi that returns a value of zero has the simultaneous side effect of setting the iforce register to zero" (4.1.8.1.5)
unfoldable pub unforced : Hart → Hart
unforced x = record { delivery = x.delivery; force = false; threshold = x.threshold }

-- ---- a source's target (4.1.5.16.1): "bits 31:18 Hart Index", "bits 7:0 IPRIO"
abbrev pub hart_index : ℕ → ℕ
hart_index target = bits target 31 18

abbrev pub priority : ℕ → ℕ
priority target = bits target 7 0

-- "When ithreshold is a nonzero value P, interrupt sources with priority numbers P and higher do not contribute to signaling interrupts to the hart" (4.1.8.1.3)
unfoldable pub passes : ℕ → ℕ → Bool
passes threshold p = eqb threshold 0 || ltb p threshold

-- ---- the top interrupt
-- a source and its priority as one number: "Lower priority number wins, then lower source number" (02), so the lower key wins
abbrev pub key_of : ℕ → ℕ → ℕ
key_of i target = priority target * 64 + i

-- above every key
abbrev pub keys : ℕ
keys = 0x4000

-- topi by a key: "bits 25:16 Interrupt identity", "bits 7:0 Interrupt priority" (4.1.8.1.4); zero for a number that is no source's key
unfoldable pub top_word : ℕ → ℕ
top_word key = pick (eqb (key % 64) 0) 0 (key % 64 * 2 ^ 16 + key / 64 % 2 ^ 8)
