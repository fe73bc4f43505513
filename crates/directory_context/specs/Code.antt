-- Nothing here has to be believed: the device context's checks by the groups that the code makes of them.
use Rattle.std.specs.Prelude.{◌%◌, Bool, ◌&&◌, not, List, [], ◌∷◌, eqb, leb}
use Rattle.memory.specs.Bits.{any_set}
use Rattle.directory_entry.specs.Fields.{root_mode_of, root_page_of, bare_of, valid_mode}
use Rattle.directory_context.specs.declared.DeviceContext.{DeviceContext}
use Rattle.directory_context.specs.Device.{pdtv, dpe, guest_page_bits}

module _ (c : DeviceContext) where
  abbrev pub control_tests : List Bool
  control_tests = any_set c.tc 3 1 ∷ any_set c.tc 8 6 ∷ any_set c.tc 63 10 ∷ any_set c.ta 11 0 ∷ any_set c.ta 63 32 ∷ []

  abbrev pub table_tests : List Bool
  table_tests =
      any_set c.fsc 59 44
      ∷ any_set c.msiptp 59 44
      ∷ any_set c.mask 63 guest_page_bits
      ∷ any_set c.pattern 63 guest_page_bits
      ∷ any_set c.reserved 63 0
      ∷ []

  abbrev pub first_tests : List Bool
  first_tests =
      (pdtv c && not (leb (root_mode_of c.fsc) 3)) ∷ (not (pdtv c) && not (valid_mode c.fsc)) ∷ (not (pdtv c) && dpe c) ∷ []

  abbrev pub second_tests : List Bool
  second_tests =
      not (valid_mode c.iohgatp)
      ∷ not (leb (root_mode_of c.msiptp) 1)
      ∷ (not (bare_of c.iohgatp) && not (eqb (root_page_of c.iohgatp % 4) 0))
      ∷ (bare_of c.iohgatp && not (bare_of c.msiptp))
      ∷ []
