-- Which guest addresses are messages, and to which interrupt file (000, 8.1.4; 003, "MSI address mask and pattern").
use Rattle.std.specs.Prelude.{ℕ, zero, suc, ◌+◌, ◌*◌, ◌/◌, ◌%◌, Bool, eqb}
use Rattle.memory.specs.Bits.{without}

-- "((A >> 12) & ~address mask) = (address pattern & ~address mask)", over all bits of the page number (D8)
unfoldable pub recognised : ℕ → ℕ → ℕ → Bool
recognised mask pattern a = eqb (without (a / 4096) mask) (without pattern mask)

-- a kept bit stands below the rest; a bit that the mask leaves out takes no place
abbrev pub keep : ℕ → ℕ → ℕ → ℕ
keep zero b rest = rest
keep (suc m) b rest = b + 2 * rest

-- extract(x, y) over the n lowest bits: the bits of x where y has a 1, packed, "keeping the same bit order"
unfoldable pub packed : ℕ → ℕ → ℕ → ℕ
packed zero x y = 0
packed (suc n) x y = keep (y % 2) (x % 2) (packed n (x / 2) (y / 2))

-- 003: "the MSI address mask and pattern fields are 52 bits wide"
unfoldable pub extract : ℕ → ℕ → ℕ
unfolding packed
extract x y = packed 52 x y

-- "interrupt file number = extract(A >> 12, address mask)"
abbrev pub file_number : ℕ → ℕ → ℕ
file_number mask a = extract (a / 4096) mask
