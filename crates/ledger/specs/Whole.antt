-- What the corollaries speak of: lists without takes, and all files of both windows.
use Rattle.std.specs.Prelude.{ℕ, zero, suc, ◌+◌, ◌-◌, ◌*◌, ◌/◌, List, [], ◌∷◌, ◌++◌, length}
use Rattle.memory.specs.Window.{Lent}
use Rattle.iommu.specs.Operations.{request, take, take_many}
use Rattle.ledger.specs.Places.{Side, first_window, second_window, Place, place}
use Rattle.ledger.specs.Machine.{Asked, asks, asks_nothing, Machine}

-- no call of the list asks a take
abbrev pub NoTake : Asked → Type 0
NoTake (asks (request mode root q d)) = Unit {0}
NoTake (asks (take file n)) = ⊥
NoTake (asks (take_many file d mask)) = ⊥
NoTake asks_nothing = Unit {0}

abbrev pub NoTakes : {O : Type 0} → Machine O → List O → Type 0
NoTakes m [] = Unit {0}
NoTakes m (o ∷ ops) = NoTake (m.asked o) × NoTakes m ops

-- k files of one window from address a on
unfoldable pub files_from : Side → ℕ → ℕ → List Place
files_from s a zero = []
files_from s a (suc k) = place s a ∷ files_from s (a + 512) k

-- all files of a window, from the first multiple of 512 on
unfoldable pub first_file : ℕ → ℕ
first_file start = (start + 511) / 512 * 512

unfoldable pub window_files : Side → ℕ → ℕ → List Place
unfolding files_from first_file
window_files s start len = files_from s (first_file start) ((start + len - first_file start) / 512)

-- all files of both
unfoldable pub all_files : Lent → List Place
unfolding window_files
all_files l =
    window_files first_window l.first.start (length l.first.bytes) ++ window_files second_window l.second.start (length l.second.bytes)
