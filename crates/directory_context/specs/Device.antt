-- The device context and its checks (01, "Directories"; 003, "Device-context configuration checks").
use Rattle.std.specs.Prelude.{ℕ, ◌-◌, ◌%◌, Bool, ◌&&◌, not, [], ◌∷◌, eqb, leb, None, Some}
use Rattle.std.specs.declared.option.Option.{Option}
use Rattle.message_recognition.specs.Table.{Messages}
use Rattle.memory.specs.Choice.{any}
use Rattle.memory.specs.Choice.{pick}
use Rattle.memory.specs.Bits.{bit, any_set}
use Rattle.directory_entry.specs.Fields.{root_mode_of, root_page_of, bare_of, valid_mode, second_table}
use Rattle.directory_context.specs.declared.DeviceContext.{DeviceContext}
use Rattle.directory_context.specs.declared.DecodedContext.{DecodedContext}

-- "In tc: V bit 0, DTF 4, PDTV 5, DPE 9". DTF decides what is reported, and no answer (003, Translation control)
abbrev pub pdtv : DeviceContext → Bool
pdtv c = bit c.tc 5

abbrev pub dpe : DeviceContext → Bool
dpe c = bit c.tc 9

-- 003: "If capabilities.Sv57x4 is 1, then MGPAW = 59": the width is that of the widest scheme, whichever a context uses (D39)
abbrev pub guest_bits : ℕ
guest_bits = 59

-- as many bits of mask and pattern are usable: Req 03, "mask and pattern bits up to 46 are usable and those above stay reserved"
abbrev pub guest_page_bits : ℕ
guest_page_bits = guest_bits - 12

-- 003, "Device-context configuration checks", by number; those that name absent capabilities fall under "every other bit set is 259"
unfoldable pub device_misconfigured : DeviceContext → Bool
device_misconfigured c =
    any
    ( -- 1 (and 2 to 7 and 18 to 21, whose bits of tc, and 22, whose bits of ta, are reserved at the fixed capabilities): reserved bits of each doubleword. So SXL is 0, and 11, which asks SXL = 1, does not apply
    any_set c.tc 3 1
    ∷ any_set c.tc 8 6
    ∷ any_set c.tc 63 10
    ∷ any_set c.ta 11 0
    ∷ any_set c.ta 63 32
    ∷ any_set c.fsc 59 44
    ∷ any_set c.msiptp 59 44
    ∷ any_set c.mask 63 guest_page_bits
    ∷ any_set c.pattern 63 guest_page_bits
    ∷ any_set c.reserved 63 0
    -- 8: PDTV = 1 and pdtp's mode isn't Bare, PD8, PD17 or PD20
    ∷ (pdtv c && not (leb (root_mode_of c.fsc) 3))
    -- 9, 10: PDTV = 0 and iosatp's mode isn't Bare, Sv39, Sv48 or Sv57
    ∷ (not (pdtv c) && not (valid_mode c.fsc))
    -- 12: PDTV = 0 and DPE = 1
    ∷ (not (pdtv c) && dpe c)
    -- 13, 14: iohgatp's mode isn't Bare, Sv39x4, Sv48x4 or Sv57x4. 15 asks GXL = 1, an RV32 scheme, which is out
    ∷ not (valid_mode c.iohgatp)
    -- 16: msiptp's mode isn't Off or Flat
    ∷ not (leb (root_mode_of c.msiptp) 1)
    -- 17: iohgatp isn't Bare and its root isn't on 16 KiB
    ∷ (not (bare_of c.iohgatp) && not (eqb (root_page_of c.iohgatp % 4) 0))
    -- "When DC.iohgatp.MODE is Bare, DC.msiptp.MODE must be set to Off"
    ∷ (bare_of c.iohgatp && not (bare_of c.msiptp))
    ∷ [])

-- the message table, with mask and pattern, where msiptp isn't Off
abbrev pub messages_of : DeviceContext → Option Messages
messages_of c = pick (bare_of c.msiptp) None (Some (record { page = root_page_of c.msiptp; mask = c.mask; pattern = c.pattern }))

-- what a context that passes them says, at its address. Message recognition asks: "msiptp.MODE != Off"
abbrev pub decoded_of : ℕ → DeviceContext → DecodedContext
decoded_of address c =
    record {
      address = address;
      second = second_table c.iohgatp;
      messages = messages_of c;
      fsc = c.fsc;
      pdtv = pdtv c;
      dpe = dpe c;
    }
