-- The memory of the worked cases, written as doublewords, and the settings that they run under: the first window's start, an empty second window at 0, and one root.
use Rattle.std.specs.Prelude.{ℕ, ◌/◌, ◌%◌, ◌^◌, List, [], ◌∷◌, ◌++◌}
use Rattle.iommu_refusals.specs.declared.Settings.{Settings}

-- the eight bytes of a doubleword, lowest first
eight : ℕ → List ℕ
eight v =
    v % 256 ∷ v / 2 ^ 8 % 256 ∷ v / 2 ^ 16 % 256 ∷ v / 2 ^ 24 % 256 ∷ v / 2 ^ 32 % 256 ∷ v / 2 ^ 40 % 256
    ∷ v / 2 ^ 48 % 256 ∷ v / 2 ^ 56 % 256 ∷ []

unfoldable pub words : List ℕ → List ℕ
unfolding eight
words [] = []
words (v ∷ vs) = eight v ++ words vs

pub start : ℕ
start = 0x40000000

-- the directory's mode, its root the first window's first page
unfoldable pub in_mode : ℕ → Settings
unfolding start
in_mode mode = record { starts = record { first = start; second = 0 }; mode = mode; root = 0x40000 }
