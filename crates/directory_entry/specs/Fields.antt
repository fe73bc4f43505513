-- Fields that iohgatp, fsc and msiptp share (01, "Directories": "hold a page number in bits 43:0 and a mode in 63:60").
use Rattle.std.specs.Prelude.{ℕ, Bool, ◌&&◌, ◌||◌, eqb, leb, None, Some}
use Rattle.memory.specs.Bits.{bits}
use Rattle.memory.specs.Choice.{pick}
use Rattle.std.specs.declared.option.Option.{Option}
use Rattle.paging.specs.Table.{StageTable}
use Rattle.paging_scheme.specs.declared.Scheme.{Scheme}
use Rattle.paging_scheme.specs.declared.Scheme.TheVariants.{Sv39, Sv48, Sv57, Sv39x4, Sv48x4, Sv57x4}

abbrev pub root_mode_of : ℕ → ℕ
root_mode_of w = bits w 63 60

abbrev pub root_page_of : ℕ → ℕ
root_page_of w = bits w 43 0

abbrev pub bare_of : ℕ → Bool
bare_of w = eqb (root_mode_of w) 0

-- the modes that stand for a scheme: "fsc 0 or 8 (Sv39)", "iohgatp 0 or 8 (Sv39x4)"; Req 03: "as modes 9 and 10"
abbrev pub scheme_mode : ℕ → Bool
scheme_mode mode = leb 8 mode && leb mode 10

abbrev pub valid_mode : ℕ → Bool
valid_mode w = bare_of w || scheme_mode (root_mode_of w)

-- 003, Table 3: iosatp's modes 8, 9 and 10. No other mode's scheme is ever used
abbrev pub first_scheme : ℕ → Scheme
first_scheme mode = pick (eqb mode 10) Sv57 (pick (eqb mode 9) Sv48 Sv39)

-- 003, Table 1: iohgatp's
abbrev pub second_scheme : ℕ → Scheme
second_scheme mode = pick (eqb mode 10) Sv57x4 (pick (eqb mode 9) Sv48x4 Sv39x4)

-- iosatp, as fsc holds it
abbrev pub first_table : ℕ → Option StageTable
first_table w = pick (bare_of w) None (Some (record { scheme = first_scheme (root_mode_of w); root = root_page_of w }))

abbrev pub second_table : ℕ → Option StageTable
second_table w = pick (bare_of w) None (Some (record { scheme = second_scheme (root_mode_of w); root = root_page_of w }))

-- "Let iosatp.MODE be Bare"
abbrev pub bare_table : Option StageTable
bare_table = None
