-- The two lent windows as memory (01, "Ground and authorities" and "What a request holds"; 02, Req 05): each a start address and a list of bytes.
use Rattle.std.specs.Prelude.{◌≡◌, ℕ, ◌+◌, ◌-◌, ◌*◌, Bool, ◌&&◌, List, [], length, take, drop, nat_le, slice_index}
use Rattle.memory.specs.Choice.{pick}
use Rattle.memory.specs.declared.Starts.{Starts}
use Rattle.memory.specs.Load.{Load}
use Rattle.std.specs.Prelude.{Some, None}

-- all of `size` bytes from address a lie in a window of `length` bytes from `start`
abbrev pub inside : ℕ → ℕ → ℕ → ℕ → Bool
inside start len a size = nat_le start a && nat_le (a + size) (start + len)

-- the number whose bytes are b0, the lowest, to b7
abbrev pub little : ℕ → ℕ → ℕ → ℕ → ℕ → ℕ → ℕ → ℕ → ℕ
little b0 b1 b2 b3 b4 b5 b6 b7 =
    b0 + 256 * (b1 + 256 * (b2 + 256 * (b3 + 256 * (b4 + 256 * (b5 + 256 * (b6 + 256 * b7))))))

-- the little-endian number of the eight bytes from index i on
abbrev pub doubleword : List ℕ → ℕ → ℕ
doubleword bytes i = little (slice_index bytes i) (at 1) (at 2) (at 3) (at 4) (at 5) (at 6) (at 7)
  where
    at : ℕ → ℕ
    at k = slice_index bytes (i + k)

-- a window: where it starts, and its bytes
pub record Window : Type 0 where
  pub start : ℕ
  pub bytes : List ℕ

-- what a call is lent: "accept two windows"
pub record Lent : Type 0 where
  pub first : Window
  pub second : Window

abbrev pub window_at : ℕ → List ℕ → Window
window_at start bytes = record { start = start; bytes = bytes }

abbrev pub lent : Starts → List ℕ → List ℕ → Lent
lent starts first second = record { first = window_at starts.first first; second = window_at starts.second second }

abbrev pub lent_at : ℕ → List ℕ → ℕ → List ℕ → Lent
lent_at first_start first second_start second = record { first = window_at first_start first; second = window_at second_start second }

-- the bytes of both windows, as a call leaves them, are those of l
pub record Leaves (l : Lent) (first second : List ℕ) : Type 0 where
  pub of_first : first ≡ l.first.bytes
  pub of_second : second ≡ l.second.bytes

-- the byte at an address
abbrev pub byte_at : Window → ℕ → ℕ
byte_at w a = slice_index w.bytes (a - w.start)

-- all of `size` bytes from address a lie in it
abbrev pub holds : Window → ℕ → ℕ → Bool
holds w a size = inside w.start (length w.bytes) a size

-- an entry's bytes "as a part of whichever window holds it"; none where neither does
abbrev pub part_in : Window → ℕ → ℕ → List ℕ → List ℕ
part_in w a size other = pick (holds w a size) (take size (drop (a - w.start) w.bytes)) other

unfoldable pub part_of : Lent → ℕ → ℕ → List ℕ
part_of l a size = part_in l.first a size (part_in l.second a size [])

-- the doubleword at address a; "A load outside the window counts as an access violation", and "Loads .. consider both"
abbrev pub load_in : Window → ℕ → Load → Load
load_in w a other = pick (holds w a 8) (Some (doubleword w.bytes (a - w.start))) other

unfoldable pub memory : Lent → ℕ → Load
memory l a = load_in l.first a (load_in l.second a None)
