-- The process context and its checks (01, "Directories"; 003, "Process-context configuration checks").
use Rattle.std.specs.Prelude.{Bool, not, [], ◌∷◌}
use Rattle.memory.specs.Choice.{any}
use Rattle.memory.specs.Bits.{bit, any_set}
use Rattle.directory_entry.specs.Fields.{valid_mode}
use Rattle.directory_context.specs.declared.ProcessContext.{ProcessContext}

-- "ta (V 0, ENS 1, SUM 2, PSCID 31:12, the rest reserved)"
abbrev pub ens_bit : ProcessContext → Bool
ens_bit c = bit c.ta 1

abbrev pub sum_bit : ProcessContext → Bool
sum_bit c = bit c.ta 2

-- 003, "Process-context configuration checks", by number
unfoldable pub process_misconfigured : ProcessContext → Bool
process_misconfigured c =
    any
    ( -- 1: reserved bits
    any_set c.ta 11 3
    ∷ any_set c.ta 63 32
    ∷ any_set c.fsc 59 44
    -- 2, 3: the mode isn't Bare, Sv39, Sv48 or Sv57. 4 asks SXL = 1, which is reserved here
    ∷ not (valid_mode c.fsc)
    ∷ [])
