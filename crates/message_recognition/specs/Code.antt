-- For code and proofs alone, nothing that a reader has to believe: how `message_recognition::pack` packs. Each round takes the lowest run of ones that is left of the mask, without a loop. `message_recognition.Rounds.enough` shows that as many rounds as the mask has ones give `extract`.
use Rattle.std.specs.Prelude.{ℕ, zero, suc, ◌+◌, ◌-◌, ◌*◌, ◌/◌, ◌%◌, ◌^◌, ◌≤◌, ◌<◌, ◌≡◌}
use Rattle.std.specs.Int.Count.{ones, count_trailing_zeros}
use Rattle.message_recognition.specs.Recognition.{extract}
use Rattle.message_recognition.specs.declared.Counted.{Counted}
use Rattle.message_recognition.specs.declared.Packing.{Packing}

-- the lowest run of ones in y starts at this bit ..
abbrev pub run_start : ℕ → ℕ
run_start y = count_trailing_zeros 64 y

-- .. and ends below this one: a one added at its start is carried through it
abbrev pub run_end : ℕ → ℕ
run_end y = count_trailing_zeros 64 (y + 2 ^ run_start y)

-- the bits of x in that run, above what is packed already; where no run is left nothing changes
abbrev pub round_of : ℕ → Packing → Packing
round_of x p =
    let start = run_start p.rest in
    let end = run_end p.rest in
    record {
      number = p.number + 2 ^ p.used * (x / 2 ^ start % 2 ^ (end - start));
      used = p.used + (end - start);
      rest = p.rest + 2 ^ start - 2 ^ end;
    }

-- what a round needs of a packing under way: a one is left, all of them stand in 52 bits and none below the places taken, and the number stands below them
abbrev pub Ready : ℕ → Packing → Type 0
Ready x p = (0 < p.rest) × (p.rest < 2 ^ 52) × (p.used ≤ run_start p.rest) × (p.number < 2 ^ 52)

-- nothing packed yet, of a mask of 52 bits
abbrev pub beginning : ℕ → Packing
beginning mask = record { number = 0; used = 0; rest = mask % 2 ^ 52 }

-- n rounds from there
unfoldable pub rounds : ℕ → ℕ → ℕ → Packing
rounds zero x mask = beginning mask
rounds (suc n) x mask = round_of x (rounds n x mask)

-- what `message_recognition::pack` promises: the packed number, and how many rounds make it: after so many no one of the mask is left, after fewer one is, and they are no more than the mask's ones
abbrev pub Packs : ℕ → ℕ → Counted → Type 0
Packs x mask r =
    (r.number ≡ extract x mask)
    × ((rounds r.rounds x mask).rest ≡ 0)
    × ((n : ℕ) → n < r.rounds → 0 < (rounds n x mask).rest)
    × (r.rounds ≤ ones mask)
