-- How the code keeps a record, and how it looks for the lowest key.
use Rattle.std.specs.Prelude.{ℕ, ◌+◌, ◌*◌, ◌%◌, ◌&&◌, eqb, ltb}
use Rattle.memory.specs.Bits.{bit, bits}
use Rattle.memory.specs.Choice.{pick}
use Rattle.word.specs.Word.{digit}
use Rattle.hart.specs.declared.Hart.{Hart}
use Rattle.hart.specs.Hart.{hart_index, key_of, keys}

-- the record that a word stands for. Any word stands for one
unfoldable pub record_of : ℕ → Hart
record_of w = record { delivery = bit w 0; force = bit w 1; threshold = bits w 15 8 }

-- the rest is nothing that a reader has to believe: the word that a record is kept in
unfoldable pub kept_of : Hart → ℕ
kept_of x = digit x.delivery + digit x.force * 2 + x.threshold % 256 * 256

-- where the search for a key begins: above the keys that pass the threshold
unfoldable pub limit_of : ℕ → ℕ
limit_of threshold = pick (eqb threshold 0) keys (threshold * 64)

-- with one more source
unfoldable pub better_of : ℕ → ℕ → ℕ → ℕ → ℕ
better_of hart i target best = pick (eqb (hart_index target) hart && ltb (key_of i target) best) (key_of i target) best
