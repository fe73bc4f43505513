-- What each call does to the table of separate sources and harts, and what it answers.
use Rattle.std.specs.Prelude.{ℕ, ◌+◌, ◌*◌, ◌^◌, Bool, true, false, ◌&&◌, ltb, Option, Some, None}
use Rattle.memory.specs.Bits.{bit, bits}
use Rattle.memory.specs.Choice.{pick}
use Rattle.word.specs.Word.{is_source, half, chosen, only, digit, lowest}
use Rattle.register.specs.declared.BitRegister.{BitRegister}
use Rattle.register.specs.declared.BitRegister.TheVariants.{SetIp, SetIpNum, InClrIp, ClrIpNum, SetIe, SetIeNum, ClrIe, ClrIeNum}
use Rattle.register.specs.declared.Register.{Register}
use Rattle.register.specs.declared.Register.TheVariants.{DomainCfg, SourceCfg, OfBits, Target, Nothing}
use Rattle.register.specs.Register.{register_of, idc_of}
use Rattle.source.specs.declared.Delivery.{Delivery}
use Rattle.source.specs.declared.Delivery.TheVariants.{Direct, Message}
use Rattle.source.specs.declared.Source.{Source}
use Rattle.source.specs.Source.{number_of, input_of, sensed, raised, lowered, handed, allowed, configured, aimed}
use Rattle.source.specs.Table.{Table, act}
use Rattle.aplic_calls.specs.Direct.{write_idc, ignores_idc, read_idc, claimed_by}
use Rattle.aplic_calls.specs.declared.Msi.{Msi}

-- ---- a wire
unfoldable pub wire_table : ℕ → Bool → Table → Table
wire_table n level t = act (only n) (sensed t.delivery level) t

-- "A wire number outside 1 to 63 is refused with 2014; nothing changes" (02)
unfoldable pub wire_refusal : ℕ → ℕ
wire_refusal n = pick (is_source n) 0 2014

-- ---- a write of v
-- to a register of bits: which sources it concerns, by mask or by number
unfoldable pub concerned : BitRegister → ℕ → ℕ → Bool
concerned (SetIp high) v = chosen high v
concerned SetIpNum v = only v
concerned (InClrIp high) v = chosen high v
concerned ClrIpNum v = only v
concerned (SetIe high) v = chosen high v
concerned SetIeNum v = only v
concerned (ClrIe high) v = chosen high v
concerned ClrIeNum v = only v

-- and what it does to each of them
unfoldable pub change : Delivery → BitRegister → Source → Source
change d (SetIp high) = raised d
change d SetIpNum = raised d
change d (InClrIp high) = lowered d
change d ClrIpNum = lowered d
change d (SetIe high) = allowed true
change d SetIeNum = allowed true
change d (ClrIe high) = allowed false
change d ClrIeNum = allowed false

-- the domain's enable (IE) is bit 8 of domaincfg; its other fields are read-only: "little-endian", and the delivery mode is fixed (02)
unfoldable pub enabled_by : ℕ → Table → Table
enabled_by v t = record { delivery = t.delivery; enable = bit v 8; row = t.row; hart = t.hart }

unfoldable pub write_register : Register → ℕ → Table → Table
write_register DomainCfg v t = enabled_by v t
write_register (SourceCfg n) v t = act (only n) (configured t.delivery v) t
write_register (OfBits b) v t = act (concerned b v) (change t.delivery b) t
write_register (Target n) v t = act (only n) (aimed t.delivery v) t
write_register Nothing v t = t

-- "the first 16 KiB of an interrupt domain's control region", and from 0x4000 on the IDC structures (4.1.5)
unfoldable pub write_table : ℕ → ℕ → Table → Table
write_table o v t = pick (ltb o 0x4000) (write_register (register_of o) v t) (write_idc (idc_of o) v t)

-- a write that is ignored, whatever its value is
unfoldable pub ignores_register : Register → Bool
ignores_register DomainCfg = false
ignores_register (SourceCfg n) = false
ignores_register (OfBits b) = false
ignores_register (Target n) = false
ignores_register Nothing = true

unfoldable pub ignores : Delivery → ℕ → Bool
ignores d o = pick (ltb o 0x4000) (ignores_register (register_of o)) (ignores_idc d (idc_of o))

-- ---- a read
-- DM: 0 direct, 1 message
abbrev pub delivery_number : Delivery → ℕ
delivery_number Direct = 0
delivery_number Message = 1

-- "bits 31:24 read-only 0x80", bit 8 IE, bit 2 DM (4.1.5.1)
abbrev pub domain_word : Bool → Delivery → ℕ
domain_word ie d = 0x80 * 2 ^ 24 + digit ie * 2 ^ 8 + delivery_number d * 2 ^ 2

-- setip reads the pending bits, in_clrip the rectified inputs, setie the enable bits; "A read of setipnum always returns zero", and so do the others
unfoldable pub read_bits : BitRegister → Table → ℕ
read_bits (SetIp high) t = half high (λ i. (t.row i).pending)
read_bits SetIpNum t = 0
read_bits (InClrIp high) t = half high (λ i. input_of (t.row i))
read_bits ClrIpNum t = 0
read_bits (SetIe high) t = half high (λ i. (t.row i).enable)
read_bits SetIeNum t = 0
read_bits (ClrIe high) t = 0
read_bits ClrIeNum t = 0

unfoldable pub read_register : Register → Table → ℕ
read_register DomainCfg t = domain_word t.enable t.delivery
read_register (SourceCfg n) t = number_of (t.row n).mode
read_register (OfBits b) t = read_bits b t
read_register (Target n) t = (t.row n).target
read_register Nothing t = 0

unfoldable pub read_table : ℕ → Table → ℕ
read_table o t = pick (ltb o 0x4000) (read_register (register_of o) t) (read_idc (idc_of o) t)

-- what a read leaves: no register of the first 16 KiB changes by being read
unfoldable pub after_read : ℕ → Table → Table
after_read o t = claimed_by (idc_of o) t

-- ---- a forward
abbrev pub waiting : Table → ℕ → Bool
waiting t i = (t.row i).pending && (t.row i).enable

-- the lowest-numbered source that is pending and enabled, or 64
unfoldable pub top_of : Table → ℕ
top_of t = lowest 63 1 (waiting t)

-- only message delivery forwards
abbrev pub forwards : Delivery → Bool
forwards Direct = false
forwards Message = true

-- "while the domain's enable is set" (02)
unfoldable pub sends : Table → Bool
sends t = (t.enable && forwards t.delivery) && ltb (top_of t) 64

-- "its target's hart index, guest index and identity" (02): bits 31:18, 17:12 and 10:0 (4.1.5.16.2)
abbrev pub msi_of : ℕ → Msi
msi_of v = record { hart = bits v 31 18; guest = bits v 17 12; identity = bits v 10 0 }

unfoldable pub forward_table : Table → Table
forward_table t = pick (sends t) (act (only (top_of t)) (handed t.delivery) t) t

unfoldable pub sent_of : Table → Option Msi
sent_of t = pick (sends t) (Some (msi_of (t.row (top_of t)).target)) None
