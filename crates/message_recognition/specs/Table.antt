-- What msiptp and the doublewords behind it say of a device's messages.
use Rattle.std.specs.Prelude.{ℕ}

-- the message table's page, and the mask and the pattern by which messages are recognised
pub record Messages : Type 0 where
  pub page : ℕ
  pub mask : ℕ
  pub pattern : ℕ
