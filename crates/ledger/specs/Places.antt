-- Files by window and address (02, Req 05: "Demand 3 covers files in either, both windows at fixed places; .. a file in both is counted in each by itself").
use Rattle.std.specs.Prelude.{ℕ, Bool, true, false, ◌&&◌, eqb, length}
use Rattle.memory.specs.Window.{Window, Lent}
use Rattle.interrupt_file.specs.File.{is_file}

pub data Side : Type 0 where
  first_window : Side
  second_window : Side

abbrev pub window_of : Lent → Side → Window
window_of l first_window = l.first
window_of l second_window = l.second

-- a file of one window
pub record Place : Type 0 where
  pub side : Side
  pub file : ℕ

abbrev pub place : Side → ℕ → Place
place side file = record { side = side; file = file }

abbrev pub same_side : Side → Side → Bool
same_side first_window first_window = true
same_side first_window second_window = false
same_side second_window first_window = false
same_side second_window second_window = true

abbrev pub same_place : Place → Place → Bool
same_place p q = same_side p.side q.side && eqb p.file q.file

-- "A file is 512 bytes of the window at an address that is a multiple of 512"
abbrev pub lies_in : Window → ℕ → Bool
lies_in w file = is_file w.start (length w.bytes) file

abbrev pub is_place : Lent → Place → Bool
is_place l p = lies_in (window_of l p.side) p.file
