-- What only the code and its proofs use; nothing that a reader has to believe.
use Rattle.std.specs.Prelude.{ℕ, ◌-◌}
use Rattle.memory.specs.Choice.{pick}
use Rattle.paging_scheme.specs.declared.Scheme.{Scheme}
use Rattle.paging_scheme.specs.Scheme.{address_bits_of, signed_of}

-- from this bit on the bits of a legal address are alike: the highest translated bit is one of them where it is a sign
abbrev pub free_bits_of : Scheme → ℕ
free_bits_of s = pick (signed_of s) (address_bits_of s - 1) (address_bits_of s)
