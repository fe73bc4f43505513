-- The page-table schemes (01: "Each page-table scheme carries its own level count, index widths and address width as facts of the scheme"; 003, tables of iohgatp's and iosatp's modes; 02, Req 03). All that is said of one scheme alone stands in the first four definitions.
use Rattle.std.specs.Prelude.{ℕ, ◌+◌, ◌-◌, ◌*◌, ◌/◌, ◌%◌, ◌^◌, Bool, true, false, ◌||◌, eqb, ltb}
use Rattle.memory.specs.Choice.{pick}
use Rattle.paging_scheme.specs.declared.Scheme.{Scheme}
use Rattle.paging_scheme.specs.declared.Scheme.TheVariants.{Sv39, Sv48, Sv57, Sv39x4, Sv48x4, Sv57x4}

abbrev pub levels_of : Scheme → ℕ
levels_of Sv39 = 3
levels_of Sv48 = 4
levels_of Sv57 = 5
levels_of Sv39x4 = 3
levels_of Sv48x4 = 4
levels_of Sv57x4 = 5

-- how many bits of the address index the root table ("root index of 11 bits"; Req 03: "A guest root still has two extra index bits"); every other table has 9
abbrev pub root_bits_of : Scheme → ℕ
root_bits_of Sv39 = 9
root_bits_of Sv48 = 9
root_bits_of Sv57 = 9
root_bits_of Sv39x4 = 11
root_bits_of Sv48x4 = 11
root_bits_of Sv57x4 = 11

-- how many bits of an address are translated ("Page-based 48-bit virtual addressing", "Page-based 59-bit virtual addressing (2-bit extension of Sv57)")
abbrev pub address_bits_of : Scheme → ℕ
address_bits_of Sv39 = 39
address_bits_of Sv48 = 48
address_bits_of Sv57 = 57
address_bits_of Sv39x4 = 41
address_bits_of Sv48x4 = 50
address_bits_of Sv57x4 = 59

-- whether the bits above those repeat the highest of them; else they are zero
abbrev pub signed_of : Scheme → Bool
signed_of Sv39 = true
signed_of Sv48 = true
signed_of Sv57 = true
signed_of Sv39x4 = false
signed_of Sv48x4 = false
signed_of Sv57x4 = false

-- "Sv39: address bits 63:39 must equal bit 38": of a 64-bit address the bits from 38 on are all 0 or all 1
abbrev pub sign_extended : ℕ → ℕ → Bool
sign_extended width a = eqb (a / 2 ^ (width - 1)) 0 || eqb (a / 2 ^ (width - 1)) (2 ^ (65 - width) - 1)

-- "Sv39x4: address below 2^41"
unfoldable pub legal_of : Scheme → ℕ → Bool
legal_of s a = pick (signed_of s) (sign_extended (address_bits_of s) a) (ltb a (2 ^ address_bits_of s))

-- how many index bits a table of level n has; the root's level is the highest, the last level is 0
abbrev pub index_bits_of : Scheme → ℕ → ℕ
index_bits_of s n = pick (eqb (n + 1) (levels_of s)) (root_bits_of s) 9

-- the lowest address bit that level n looks at: a page of level n has 2 to the power of this many bytes
abbrev pub page_bits_of : ℕ → ℕ
page_bits_of n = 12 + 9 * n

-- Priv, address-translation process, step 2: va.vpn[n]
unfoldable pub index_of : Scheme → ℕ → ℕ → ℕ
index_of s a n = a / 2 ^ page_bits_of n % 2 ^ index_bits_of s n
