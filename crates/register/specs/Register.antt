-- The registers of a domain by their offsets, after document 002, section 4.1.5, Table 1, and section 4.1.8.1.
use Rattle.std.specs.Prelude.{ℕ, ◌-◌, ◌/◌, ◌%◌, true, false, eqb, ltb}
use Rattle.memory.specs.Choice.{pick}
use Rattle.register.specs.declared.BitRegister.TheVariants.{SetIp, SetIpNum, InClrIp, ClrIpNum, SetIe, SetIeNum, ClrIe, ClrIeNum}
use Rattle.register.specs.declared.HartRegister.TheVariants.{IDelivery, IForce, IThreshold, TopI}
use Rattle.register.specs.declared.Idc.{Idc}
use Rattle.register.specs.declared.Idc.TheVariants.{OfHart, ClaimI, Reserved}
use Rattle.register.specs.declared.Register.{Register}
use Rattle.register.specs.declared.Register.TheVariants.{DomainCfg, SourceCfg, OfBits, Target, Nothing}

-- 0x1C00 to 0x1DDC: the pending bits
unfoldable pub pending_register : ℕ → Register
pending_register o =
    pick (eqb o 0x1c00) (OfBits (SetIp false))
    (pick (eqb o 0x1c04) (OfBits (SetIp true))
    (pick (eqb o 0x1cdc) (OfBits SetIpNum)
    (pick (eqb o 0x1d00) (OfBits (InClrIp false))
    (pick (eqb o 0x1d04) (OfBits (InClrIp true))
    (pick (eqb o 0x1ddc) (OfBits ClrIpNum) Nothing)))))

-- 0x1E00 to 0x1FDC: the enable bits
unfoldable pub enable_register : ℕ → Register
enable_register o =
    pick (eqb o 0x1e00) (OfBits (SetIe false))
    (pick (eqb o 0x1e04) (OfBits (SetIe true))
    (pick (eqb o 0x1edc) (OfBits SetIeNum)
    (pick (eqb o 0x1f00) (OfBits (ClrIe false))
    (pick (eqb o 0x1f04) (OfBits (ClrIe true))
    (pick (eqb o 0x1fdc) (OfBits ClrIeNum) Nothing)))))

-- "Undefined offsets, genmsi and setipnum_be read zero and ignore writes" (02): Nothing is at 0x2004 and 0x3000. Sources from 64 on "appear .. as being
-- not implemented", the registers of message addresses are for machine-level domains only, setipnum_le (0x2000) "acts identically to setipnum", and only
-- "naturally aligned" accesses count
unfoldable pub register_of : ℕ → Register
register_of o =
    pick (eqb (o % 4) 0)
    (pick (eqb o 0x0000) DomainCfg
    (pick (ltb o 0x0100) (SourceCfg (o / 4))
    (pick (ltb o 0x1e00) (pending_register o)
    (pick (ltb o 0x2000) (enable_register o)
    (pick (eqb o 0x2000) (OfBits SetIpNum)
    (pick (ltb o 0x3004) Nothing
    (pick (ltb o 0x3100) (Target ((o - 0x3000) / 4))
    Nothing)))))))
    Nothing

-- "IDC structures are packed contiguously, 32 bytes per structure", from 0x4000 on, the first one hart 0's. The harts are "0 to 15" (02); for a structure of no hart
-- "these registers may optionally be all read-only zeros" (4.1.8.1), and "all other bytes .. are implemented as read-only zeros"
unfoldable pub idc_of : ℕ → Idc
idc_of o =
    pick (ltb o 0x4000) Reserved
    (pick (ltb o 0x4200)
    (pick (eqb (o % 32) 0x00) (OfHart ((o - 0x4000) / 32) IDelivery)
    (pick (eqb (o % 32) 0x04) (OfHart ((o - 0x4000) / 32) IForce)
    (pick (eqb (o % 32) 0x08) (OfHart ((o - 0x4000) / 32) IThreshold)
    (pick (eqb (o % 32) 0x18) (OfHart ((o - 0x4000) / 32) TopI)
    (pick (eqb (o % 32) 0x1c) (ClaimI ((o - 0x4000) / 32)) Reserved)))))
    Reserved)
