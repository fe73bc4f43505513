-- The lowest run of ones in a mask: where it is, what it adds to a packing, how many ones it has, and what is left without it. Assumes nothing.
use Prim.Native.Nat.{ℕ, zero, suc, ◌+◌, ◌-◌, ◌*◌, ◌/◌, ◌%◌, ◌^◌, ◌≤◌, ◌<◌}
use mathlib.Core.Path.{◌≡◌, refl, sym, ap, ◌∙◌}
use mathlib.Core.Logic.{◌⊎◌, inl, inr, ⊎_elim}
use native.Mathlib.Nat.{mul_assoc, mul_comm, pow-suc, div-div-eq-div-mul, div-one, sub-zero}
use native.Mathlib.Numerals.{add-one}
use native.Mathlib.Omega.{arith}
use lib.Bits.{bit_and, and_step, and_self}
use lib.Count.{ones, ones_step, count_trailing_zeros}
use lib.Pow.{mod-pow-add}
use Rattle.message_recognition.specs.Recognition.{packed}

pub parity : (y : ℕ) → (y % 2 ≡ 0) ⊎ (y % 2 ≡ 1)
parity y = go (y % 2) (omega arith)
  where
    go : (b : ℕ) → b < 2 → (b ≡ 0) ⊎ (b ≡ 1)
    go zero h = inl refl
    go (suc zero) h = inr refl
    go (suc (suc b)) h = absurd (omega arith)

-- what is left of y without its ones from bit s to below bit e
abbrev pub after : ℕ → ℕ → ℕ → ℕ
after y s e = y + 2 ^ s - 2 ^ e

-- the ones of y from bit s to below bit e, taken out of it: packing over n bits of x, and zeros counted over k; none are taken where e is s
pub record Run (n k x y s e : ℕ) : Type 0 where
  pub bound : e ≤ n
  pub order : s ≤ e
  pub stands : 2 ^ e ≤ y + 2 ^ s
  pub packing : packed n x y ≡ x / 2 ^ s % 2 ^ (e - s) + 2 ^ (e - s) * packed n x (after y s e)
  pub count : ones y ≡ (e - s) + ones (after y s e)
  pub meet : bit_and y (y + 2 ^ s) ≡ after y s e
  pub next : e ≤ count_trailing_zeros k (after y s e)

-- a lowest bit of 0 takes no place, is not counted, and is one more zero at the end
module _ (z : ℕ) (h : z % 2 ≡ 0) where
  pub packed-even : (n x : ℕ) → packed (suc n) x z ≡ packed n (x / 2) (z / 2)
  unfolding packed
  packed-even n x = rw h

  ones-even : ones z ≡ ones (z / 2)
  ones-even = omega (arith, ones_step z)

  zeros_even : (k : ℕ) → count_trailing_zeros (suc k) z ≡ suc (count_trailing_zeros k (z / 2))
  unfolding count_trailing_zeros
  zeros_even k = rw h

  and_even : (y : ℕ) → bit_and y z ≡ bit_and (y / 2) (z / 2) * 2
  and_even y = omega (arith, and_step y z)

module _ (z : ℕ) (h : z % 2 ≡ 1) where
  pub packed-odd : (n x : ℕ) → packed (suc n) x z ≡ x % 2 + 2 * packed n (x / 2) (z / 2)
  unfolding packed
  packed-odd n x = rw h

  ones_odd : ones z ≡ 1 + ones (z / 2)
  ones_odd = omega (arith, ones_step z)

zeros_odd : (k z : ℕ) → z % 2 ≡ 1 → count_trailing_zeros k z ≡ 0
unfolding count_trailing_zeros
zeros_odd zero z h = refl
zeros_odd (suc k) z h = rw h

-- no run at bit 0
none : (n k x y : ℕ) → y % 2 ≡ 0 → Run n k x y 0 0
none n k x y h =
    let same : after y 0 0 ≡ y = omega arith in
    let up : (y + 1) / 2 ≡ y / 2 = omega arith in
    record {
      bound = omega arith;
      order = omega arith;
      stands = omega arith;
      packing = rw same (omega arith);
      count = rw same (omega arith);
      meet = rw same (and_step y (y + 1) ∙ rw (up, and_self) (omega arith));
      next = omega arith;
    }

-- one more zero below a run
below : (n k x y s e : ℕ) → y % 2 ≡ 0 → Run n k (x / 2) (y / 2) s e → Run (suc n) (suc k) x y (suc s) (suc e)
below n k x y s e h r =
    let ps = pow-suc 2 s in
    let pe = pow-suc 2 e in
    let left = after y (suc s) (suc e) in
    let even : left % 2 ≡ 0 = omega (arith, ps, pe, r.stands) in
    let half : left / 2 ≡ after (y / 2) s e = omega (arith, ps, pe, r.stands) in
    let carried : (y + 2 ^ suc s) / 2 ≡ y / 2 + 2 ^ s = omega (arith, ps) in
    let apart : suc e - suc s ≡ e - s = omega arith in
    let part : x / 2 ^ suc s ≡ x / 2 / 2 ^ s = ap (λ d. x / d) (ps ∙ mul_comm (2 ^ s) 2) ∙ sym (div-div-eq-div-mul x 2 (2 ^ s)) in
    record {
      bound = omega (arith, r.bound);
      order = omega (arith, r.order);
      stands = omega (arith, ps, pe, r.stands);
      packing = packed-even y h n x ∙ r.packing ∙ rw (apart, part, packed-even left even n x, half);
      count = ones-even y h ∙ r.count ∙ rw (apart, ones-even left even, half);
      meet = and_even (y + 2 ^ suc s) (omega (arith, ps)) y ∙ rw (carried, r.meet) (omega (arith, half, even));
      next = rw (zeros_even left even k, half) (omega (arith, r.next));
    }

pub halved : (x e : ℕ) → x % 2 ^ suc e ≡ x / 2 % 2 ^ e * 2 + x % 2
halved x e = ap (λ k. x % 2 ^ k) (sym (add-one e)) ∙ mod-pow-add x e 1

-- one bit more of x below a number
digit : (x e q : ℕ) → x % 2 + 2 * (x / 2 / 2 ^ 0 % 2 ^ (e - 0) + 2 ^ (e - 0) * q) ≡ x / 2 ^ 0 % 2 ^ (suc e - 0) + 2 ^ (suc e - 0) * q
digit x e q =
    let twice : 2 ^ suc e * q ≡ 2 * (2 ^ e * q) = ap (λ d. d * q) (pow-suc 2 e ∙ mul_comm (2 ^ e) 2) ∙ mul_assoc 2 (2 ^ e) q in
    simp (div-one, sub-zero) (omega (arith, halved x e, twice))

-- one more one below a run at bit 0
beside : (n k x y e : ℕ) → y % 2 ≡ 1 → Run n k (x / 2) (y / 2) 0 e → Run (suc n) (suc k) x y 0 (suc e)
beside n k x y e h r =
    let pe = pow-suc 2 e in
    let left = after y 0 (suc e) in
    let even : left % 2 ≡ 0 = omega (arith, pe, r.stands) in
    let half : left / 2 ≡ after (y / 2) 0 e = omega (arith, pe, r.stands) in
    let carried : (y + 2 ^ 0) / 2 ≡ y / 2 + 2 ^ 0 = omega arith in
    record {
      bound = omega (arith, r.bound);
      order = omega arith;
      stands = omega (arith, pe, r.stands);
      packing = packed-odd y h n x ∙ rw (r.packing, packed-even left even n x, half) (digit x e _);
      count = ones_odd y h ∙ rw (r.count, ones-even left even, half) (omega arith);
      meet = and_even (y + 2 ^ 0) (omega arith) y ∙ rw (carried, r.meet) (omega (arith, half, even));
      next = rw (zeros_even left even k, half) (omega (arith, r.next));
    }

-- a run at bit 0, of no ones where y is even
low : (n k x y : ℕ) → n ≤ k → y < 2 ^ n → Run n k x y 0 (count_trailing_zeros k (y + 1))
low zero k x y l h =
    let none-set : y ≡ 0 = omega arith in
    rw (zeros_odd k (y + 1) (omega arith)) (none zero k x y (omega arith))
low (suc n) zero x y l h = absurd (omega arith)
low (suc n) (suc k) x y l h =
    ⊎_elim
    (λ even. rw (zeros_odd (suc k) (y + 1) (omega arith)) (none (suc n) (suc k) x y even))
    (λ odd.
    let half : (y + 1) / 2 ≡ y / 2 + 1 = omega arith in
    rw (zeros_even (y + 1) (omega arith) k, half)
    (beside n k x y (count_trailing_zeros k (y / 2 + 1)) odd (low n k (x / 2) (y / 2) (omega arith) (omega (arith, pow-suc 2 n)))))
    (parity y)

-- the lowest run has a one
abbrev pub Lowest : ℕ → ℕ → ℕ → ℕ → Type 0
Lowest n k x y =
    let s = count_trailing_zeros k y in
    let e = count_trailing_zeros k (y + 2 ^ s) in
    Run n k x y s e × (s < e)

lowest-even : (n k x y : ℕ) → y % 2 ≡ 0 → Lowest n k (x / 2) (y / 2) → Lowest (suc n) (suc k) x y
lowest-even n k x y even r =
    let s = count_trailing_zeros k (y / 2) in
    let over : (y + 2 ^ suc s) % 2 ≡ 0 = omega (arith, pow-suc 2 s) in
    let half : (y + 2 ^ suc s) / 2 ≡ y / 2 + 2 ^ s = omega (arith, pow-suc 2 s) in
    rw (zeros_even y even k, zeros_even (y + 2 ^ suc s) over k, half)
    (below n k x y s (count_trailing_zeros k (y / 2 + 2 ^ s)) even r.0, omega (arith, r.1))

lowest-odd : (n k x y : ℕ) → n ≤ k → y < 2 ^ suc n → y % 2 ≡ 1 → Lowest (suc n) (suc k) x y
lowest-odd n k x y l h odd =
    rw (zeros_odd (suc k) y odd)
    (low (suc n) (suc k) x y (omega arith) h, omega (arith, zeros_even (y + 1) (omega arith) k))

pub lowest : (n k x y : ℕ) → n ≤ k → y < 2 ^ n → 0 < y → Lowest n k x y
lowest zero k x y l h p = absurd (omega arith)
lowest (suc n) zero x y l h p = absurd (omega arith)
lowest (suc n) (suc k) x y l h p =
    let h' : y / 2 < 2 ^ n = omega (arith, pow-suc 2 n) in
    ⊎_elim
    (λ even. let p' : 0 < y / 2 = omega arith in lowest-even n k x y even (lowest n k (x / 2) (y / 2) (omega arith) h' p'))
    (lowest-odd n k x y (omega arith) h)
    (parity y)
