-- For code and proofs alone, nothing that a reader has to believe: how the code forms a report's words, the doublewords of a file's bytes, 0 past their end.
use Rattle.std.specs.Prelude.{ℕ, zero, suc, ◌+◌, ◌*◌, List, [], ltb, length, Result, Ok, Err}
use Rattle.std.specs.Int.Count.{ones}
use Rattle.memory.specs.Choice.{pick}
use Rattle.memory.specs.Window.{Lent, doubleword, part_of}
use Rattle.refusal.specs.Refusal.{number_of}
use Rattle.refusal.specs.declared.Refusal.{Refusal}
use Rattle.interrupt_file.specs.declared.Pair.{Pair}

-- by what the checks give
abbrev pub number_told : Result (Unit {0}) Refusal → ℕ
number_told (Ok u) = 0
number_told (Err why) = number_of why

abbrev pub file_bytes : Lent → ℕ → Result (Unit {0}) Refusal → List ℕ
file_bytes l file (Ok u) = part_of l file 512
file_bytes l file (Err why) = []

abbrev pub word_in : List ℕ → ℕ → ℕ
word_in bytes i = pick (ltb (length bytes) (i + 8)) 0 (doubleword bytes i)

unfoldable pub pair_in : List ℕ → ℕ → Pair
pair_in bytes k = record { pending = word_in bytes (16 * k); enable = word_in bytes (16 * k + 8) }

-- the ones of the first k pairs' pending doublewords
unfoldable pub pending_ones : (ℕ → Pair) → ℕ → ℕ
pending_ones pair zero = 0
pending_ones pair (suc k) = pending_ones pair k + ones (pair k).pending
