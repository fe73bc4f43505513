-- Packing by rounds: each takes the lowest run of ones that is left of the mask, and as many rounds as the mask has ones are enough. Assumes nothing.
use Prim.Native.Nat.{ℕ, zero, suc, ◌+◌, ◌-◌, ◌*◌, ◌/◌, ◌%◌, ◌^◌, ◌≤◌, ◌<◌}
use mathlib.Core.Path.{◌≡◌, refl, sym, ap, ◌∙◌}
use mathlib.Core.Logic.{⊎_elim}
use native.Mathlib.Nat.{div-le_self, mul-zero, mul-add, mul_assoc, mul_comm, pow-suc, mod-lt, sub-zero, mul-div_cancel, eq-zero-or-pos, eq-or-lt_of_le}
use native.Mathlib.Numerals.{add-one}
use native.Mathlib.Omega.{arith}
use lib.Bits.{bit_and, and_le_l, and_le_r, and_high}
use lib.Count.{ones, ones_cat, ones-le, count_trailing_zeros, trailing_of_zero}
use lib.Pow.{pow_pos, pow-add, pow_mono, split}
use Rattle.message_recognition.specs.Recognition.{packed, extract}
use Rattle.message_recognition.specs.declared.Packing.{Packing}
use Rattle.message_recognition.specs.Code.{run_start, run_end, round_of, Ready, beginning, rounds, Packs}
use Rattle.message_recognition.proofs.Runs.{parity, halved, packed-even, packed-odd, after, Lowest, lowest}

-- no more than n bits are packed
packed-below : (n x y : ℕ) → packed n x y < 2 ^ n
unfolding packed
packed-below zero x y = omega arith
packed-below (suc n) x y =
    let less = packed-below n (x / 2) (y / 2) in
    ⊎_elim
    (λ even. rw (packed-even y even n x) (omega (arith, less, pow-suc 2 n)))
    (λ odd. rw (packed-odd y odd n x) (omega (arith, less, pow-suc 2 n)))
    (parity y)

-- bits above bit n don't count
packed-low : (n x y : ℕ) → packed n x (y % 2 ^ n) ≡ packed n x y
unfolding packed
packed-low zero x y = refl
packed-low (suc n) x y =
    let z = y % 2 ^ suc n in
    let bit : z % 2 ≡ y % 2 = omega (arith, halved y n) in
    let half : z / 2 ≡ y / 2 % 2 ^ n = omega (arith, halved y n) in
    rw (bit, half, packed-low n (x / 2) (y / 2))

pub extract-below : (x mask : ℕ) → extract x mask < 2 ^ 52
unfolding extract
extract-below x mask = packed-below 52 x mask

packed_none : (n x : ℕ) → packed n x 0 ≡ 0
unfolding packed
packed_none zero x = refl
packed_none (suc n) x = packed_none n (x / 2)

-- packing under way: what is packed and, above it, the packing of the rest make the whole; no more than `left` ones are left
record Partial (x mask left : ℕ) (p : Packing) : Type 0 where
  sum : p.number + 2 ^ p.used * packed 52 x p.rest ≡ extract x mask
  small : p.rest < 2 ^ 52
  room : p.used ≤ run_start p.rest
  few : ones p.rest ≤ left

starts : (x mask : ℕ) → Partial x mask (ones mask) (beginning mask)
unfolding extract
starts x mask =
    record {
      sum = rw (packed-low 52 x mask) (omega arith);
      small = omega arith;
      room = omega arith;
      few = omega (arith, sym (ap ones (split mask 52)) ∙ ones_cat 52 (mask / 2 ^ 52) (mask % 2 ^ 52) (mod-lt mask (pow_pos 52)));
    }

end_of_none : run_end 0 ≡ 64
unfolding count_trailing_zeros
end_of_none = refl

-- a run is packed at place u, and the rest above it
placed : (u w v rest : ℕ) → 2 ^ u * (v + 2 ^ w * rest) ≡ 2 ^ u * v + 2 ^ (u + w) * rest
placed u w v rest =
    mul-add (2 ^ u) v (2 ^ w * rest)
    ∙ ap (λ k. 2 ^ u * v + k) (sym (mul_assoc (2 ^ u) (2 ^ w) rest) ∙ ap (λ k. k * rest) (sym (pow-add 2 u w)))

run : (x y : ℕ) → y < 2 ^ 52 → 0 < y → Lowest 52 64 x y
run x y small some = lowest 52 64 x y (omega arith) small some

module _ {x mask left : ℕ} {p : Packing} (q : Partial x mask left p) where
  whole : p.number ≤ extract x mask
  whole = omega (arith, q.sum)

  turns : 0 < p.rest → Partial x mask (left - 1) (round_of x p)
  turns h =
      let l = run x p.rest q.small h in
      let r = l.0 in
      let s = run_start p.rest in
      let e = run_end p.rest in
      let rest = packed 52 x (after p.rest s e) in
      let v = x / 2 ^ s % 2 ^ (e - s) in
      let run-sum : 2 ^ p.used * packed 52 x p.rest ≡ 2 ^ p.used * v + 2 ^ (p.used + (e - s)) * rest = ap (λ k. 2 ^ p.used * k) r.packing ∙ placed p.used (e - s) v rest in
      record {
        sum = omega (arith, q.sum, run-sum);
        small = omega (arith, pow_mono r.order, q.small);
        room = omega (arith, r.order, r.next, q.room);
        few = omega (arith, r.count, l.1, q.few);
      }

  -- where nothing is left a round changes nothing
  idles : p.rest ≡ 0 → Partial x mask (left - 1) (round_of x p)
  idles e =
      let s : run_start p.rest ≡ 64 = ap run_start e ∙ trailing_of_zero 64 in
      let t : run_end p.rest ≡ 64 = ap run_end e ∙ end_of_none in
      let bits : x / 2 ^ run_start p.rest % 2 ^ (run_end p.rest - run_start p.rest) ≡ 0 = rw (t, s) (omega arith) in
      let number : (round_of x p).number ≡ p.number = rw (bits, mul-zero) (omega arith) in
      let used : (round_of x p).used ≡ p.used = rw (t, s) (omega arith) in
      let rest : (round_of x p).rest ≡ p.rest = rw (t, s) (omega arith) in
      record {
        sum = rw (number, used, rest) q.sum;
        small = rw rest q.small;
        room = rw (used, rest) q.room;
        few = rw (rest, e) (omega (arith, ones-le 0 0 (omega arith)));
      }

  turned : Partial x mask (left - 1) (round_of x p)
  turned = ⊎_elim idles turns (eq-zero-or-pos p.rest)

  done : p.rest ≡ 0 → p.number ≡ extract x mask
  done e = omega (arith, rw (e, packed_none, mul-zero) at q.sum)

  -- a number that still has a one has a run
  emptied : left ≡ 0 → p.rest ≡ 0
  emptied e =
      ⊎_elim
      (λ z. z)
      (λ h. let l = run x p.rest q.small h in absurd (omega (arith, l.0.count, l.1, q.few)))
      (eq-zero-or-pos p.rest)

reached : (n x mask : ℕ) → Partial x mask (ones mask - n) (rounds n x mask)
unfolding rounds
reached zero x mask = rw sub-zero (starts x mask)
reached (suc n) x mask =
    let same : ones mask - n - 1 ≡ ones mask - suc n = omega arith in
    rw same at (turned (reached n x mask))

-- as many rounds as the mask has ones give the packed number
pub enough : (x mask : ℕ) → (rounds (ones mask) x mask).number ≡ extract x mask
enough x mask = let q = reached (ones mask) x mask in done q (emptied q (omega arith))

-- and one fewer is not always enough: of the mask 101
pub one-short : ((rounds 1 5 5).number ≡ 1) × ((rounds 2 5 5).number ≡ 3) × (extract 5 5 ≡ 3)
unfolding rounds count_trailing_zeros extract
one-short = (refl, refl, refl)

-- what `message_recognition::round` computes, for a packing under way
module _ (x : ℕ) (p : Packing) (h : Ready x p) where
  abbrev s : ℕ
  s = run_start p.rest

  abbrev e : ℕ
  e = run_end p.rest

  run_of : Lowest 52 64 x p.rest
  run_of = run x p.rest h.1 h.0

  pub start-below : s < 52
  start-below = omega (arith, run_of.1, run_of.0.bound)

  end-above : s ≤ e
  end-above = run_of.0.order

  end_below : e ≤ 52
  end_below = run_of.0.bound

  -- the one added at the run's start, as a doubleword has it
  abbrev over : ℕ
  over = p.rest + 1 * 2 ^ s % 2 ^ 64

  pub one_fits : 2 ^ s ≤ 2 ^ 52
  one_fits = pow_mono {i = s} {j = 52} (omega (arith, start-below))

  over-is : over ≡ p.rest + 2 ^ s
  over-is = omega (arith, one_fits, h.1)

  pub over_fits : over < 2 ^ 64
  over_fits = omega (arith, one_fits, h.1)

  pub over-end : s ≤ count_trailing_zeros 64 over
  over-end = rw over-is end-above

  pub used_fits : p.used + (count_trailing_zeros 64 over - s) < 2 ^ 32
  used_fits = rw over-is (omega (arith, start-below, end_below, h.2))

  pub rest-is : bit_and p.rest over ≡ (round_of x p).rest
  rest-is = rw over-is run_of.0.meet

  pub run_fits : bit_and p.rest over ≤ p.rest
  run_fits = and_le_l p.rest over

  -- the run's bits of x, moved down to their place
  moved : bit_and x (p.rest - after p.rest s e) / 2 ^ (s - p.used) ≡ 2 ^ p.used * (x / 2 ^ s % 2 ^ (e - s))
  moved =
      let v = x / 2 ^ s % 2 ^ (e - s) in
      let top : e - s + s ≡ e = omega (arith, end-above) in
      let mask : p.rest - after p.rest s e ≡ 2 ^ (e - s + s) - 2 ^ s = rw top (omega (arith, run_of.0.stands, pow_mono end-above)) in
      let gap : p.used + (s - p.used) ≡ s = omega (arith, h.2) in
      let lower : 2 ^ s ≡ 2 ^ p.used * 2 ^ (s - p.used) = ap (λ k. 2 ^ k) (sym gap) ∙ pow-add 2 p.used (s - p.used) in
      let value : v * 2 ^ s ≡ 2 ^ p.used * v * 2 ^ (s - p.used) = ap (λ k. v * k) lower ∙ sym (mul_assoc v (2 ^ p.used) (2 ^ (s - p.used))) ∙ ap (λ k. k * 2 ^ (s - p.used)) (mul_comm v (2 ^ p.used)) in
      rw (mask, and_high x (e - s) s, value) (mul-div_cancel (2 ^ p.used * v) (pow_pos (s - p.used)))

  -- no sum of the number and a part of x wraps
  pub sum_fits : (m k : ℕ) → m < 2 ^ 63 → p.number + bit_and x m / 2 ^ k < 2 ^ 64
  sum_fits m k l = omega (arith, and_le_r x m, div-le_self (bit_and x m) (2 ^ k), h.3)

  pub number_is : p.number + bit_and x (p.rest - bit_and p.rest over) / 2 ^ (s - p.used) ≡ (round_of x p).number
  number_is = rw (rest-is, moved)

  pub used-is : p.used + (count_trailing_zeros 64 over - s) ≡ (round_of x p).used
  used-is = rw over-is

  -- the parts of a round
  pub round_is : (number used rest : ℕ) → number ≡ (round_of x p).number → used ≡ (round_of x p).used → rest ≡ (round_of x p).rest → record { number = number; used = used; rest = rest } ≡ round_of x p
  round_is number used rest n u r = rw (n, u, r)

-- a packing after so many rounds, none of them in vain
pub record Counting (x mask done : ℕ) (p : Packing) : Type 0 where
  pub so_far : p ≡ rounds done x mask
  pub needed : (n : ℕ) → n < done → 0 < (rounds n x mask).rest
  pub within : done ≤ ones mask

pub begins : (x mask rest : ℕ) → rest ≡ mask % 2 ^ 52 → Counting x mask 0 (record { number = 0; used = 0; rest = rest })
unfolding rounds
begins x mask rest e =
    record { so_far = rw e; needed = λ n h. absurd (omega arith); within = omega arith }

module _ {x mask count : ℕ} {p : Packing} (k : Counting x mask count p) where
  partial : Partial x mask (ones mask - count) p
  partial = rw k.so_far (reached count x mask)

  module _ (some : 0 < p.rest) where
    pub ready : Ready x p
    ready = (some, partial.small, partial.room, omega (arith, whole partial, extract-below x mask))

    -- a one is left, so the rounds done are fewer than the mask's ones
    pub fewer : count < ones mask
    fewer =
        ⊎_elim
        (λ (none : ones mask - count ≡ 0). absurd (omega (arith, emptied partial none, some)))
        (λ l. omega arith)
        (eq-zero-or-pos (ones mask - count))

    pub count_fits : mask < 2 ^ 64 → count + 1 < 2 ^ 32
    count_fits l = omega (arith, fewer, ones-le 64 mask l)

    -- a round takes a run away
    pub shrinks : (q : Packing) → q ≡ round_of x p → q.rest < p.rest
    shrinks q e =
        let r = run x p.rest partial.small some in
        let s = run_start p.rest in
        rw e (omega (arith, r.0.stands, pow_pos s, pow-suc 2 s, pow_mono r.1))

    pub again : (q : Packing) → q ≡ round_of x p → Counting x mask (count + 1) q
    unfolding rounds
    again q e =
        record {
          so_far = rw (add-one count) (e ∙ ap (round_of x) k.so_far);
          needed = λ n l.
              ⊎_elim
              (λ (same : n ≡ count). rw (same, ← k.so_far) some)
              (k.needed n)
              (eq-or-lt_of_le (omega arith));
          within = omega (arith, fewer);
        }

  pub stops : p.rest ≡ 0 → Packs x mask (record { number = p.number; rounds = count })
  stops e = (done partial e, rw k.so_far at e, k.needed, k.within)
