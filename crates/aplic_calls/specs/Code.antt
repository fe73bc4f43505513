-- Nothing here has to be believed: what the code of a read promises of words that stand for a table.
use Rattle.std.specs.Prelude.{ℕ, ◌≡◌}
use Rattle.register.specs.declared.BitRegister.{BitRegister}
use Rattle.sources.specs.declared.Sources.{Sources}
use Rattle.sources.specs.Sources.{Common, table_with}
use Rattle.aplic_calls.specs.Calls.{read_bits}

-- x is what a register of bits reads, whatever else the domain has
unfoldable pub Shows : BitRegister → Sources → ℕ → Type 0
Shows b s x = (c : Common) (targets : ℕ → ℕ) → x ≡ read_bits b (table_with c s targets)
