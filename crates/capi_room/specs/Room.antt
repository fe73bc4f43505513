-- A buffer that C lends: what is answered and changed by whether it has room.
use Rattle.std.specs.Prelude.{ℕ, List, ltb, length}
use Rattle.memory.specs.Choice.{pick}

-- a buffer that is too short is left as it is, and so is what is lent; the status is then 1, else 0
unfoldable pub status : ℕ → List ℕ → ℕ
status n out = pick (ltb (length out) n) 1 0

unfoldable pub fitting : {A : Type 0} → ℕ → List ℕ → A → A → A
fitting n out before after = pick (ltb (length out) n) before after

-- the same of two buffers: both must have room
unfoldable pub fitting_both : {A : Type 0} → ℕ → List ℕ → ℕ → List ℕ → A → A → A
fitting_both n out m state before after = pick (ltb (length out) n) before (pick (ltb (length state) m) before after)
