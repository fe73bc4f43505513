-- Nothing here has to be believed: windows that a walk may go through, a doubleword's bytes, a window's doublewords by their offsets, and two windows in the other order.
use Rattle.std.specs.Prelude.{◌≡◌, ℕ, ◌+◌, ◌/◌, ◌%◌, ◌^◌, ◌≤◌, true, List, [], ◌∷◌, length, take, drop, ◌≢◌, nat_le, nat_lt}
use Rattle.memory.specs.Choice.{pick}
use Rattle.memory.specs.Window.{Lent, inside, doubleword}
use Rattle.memory.specs.declared.Starts.{Starts}
use Rattle.memory.specs.Load.{Load}
use Rattle.std.specs.Prelude.{Some, None}

-- both windows are whole pages; n and m are their lengths
abbrev pub Paged : Starts → ℕ → ℕ → Type 0
Paged starts n m = (starts.first % 4096 ≡ 0) × (n % 4096 ≡ 0) × (starts.second % 4096 ≡ 0) × (m % 4096 ≡ 0)

-- no doubleword lies in both
abbrev pub Disjoint : Starts → ℕ → ℕ → Type 0
Disjoint starts n m = (a : ℕ) → inside starts.first n a 8 ≡ true → inside starts.second m a 8 ≢ true

-- what the checks before a walk leave of both windows: whole pages, no end beyond the addresses, and nothing in both
pub record Walkable (starts : Starts) (n m : ℕ) : Type 0 where
  pub paged : Paged starts n m
  pub first_end : starts.first + n ≤ 2 ^ 64
  pub second_end : starts.second + m ≤ 2 ^ 64
  pub apart : Disjoint starts n m

-- the same of what is lent
abbrev pub Sound : Lent → Type 0
Sound l = Walkable (record { first = l.first.start; second = l.second.start }) (length l.first.bytes) (length l.second.bytes)

-- the eight bytes of a doubleword, the lowest first
unfoldable pub eight : ℕ → List ℕ
eight v =
    v % 256 ∷ v / 2 ^ 8 % 256 ∷ v / 2 ^ 16 % 256 ∷ v / 2 ^ 24 % 256 ∷ v / 2 ^ 32 % 256 ∷ v / 2 ^ 40 % 256
    ∷ v / 2 ^ 48 % 256 ∷ v / 2 ^ 56 % 256 ∷ []

-- the bytes of an entry at an offset of a window
abbrev pub part_at : List ℕ → ℕ → ℕ → List ℕ
part_at bytes d size = pick (nat_le (d + size) (length bytes)) (take size (drop d bytes)) []

-- the doubleword in an entry's bytes, and at an offset of a window
abbrev pub load_of : List ℕ → Load
load_of bytes = pick (nat_lt (length bytes) 8) None (Some (doubleword bytes 0))

abbrev pub load_at : List ℕ → ℕ → Load
load_at bytes d = pick (nat_le (d + 8) (length bytes)) (Some (doubleword bytes d)) None

-- the starts in the other order
abbrev pub turned_starts : Starts → Starts
turned_starts starts = record { first = starts.second; second = starts.first }
