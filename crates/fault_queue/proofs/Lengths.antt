-- Lengths of a queue: numbers with one bit. Assumes nothing.
use Prim.Native.Nat.{ℕ, zero, suc, ◌+◌, ◌-◌, ◌*◌, ◌/◌, ◌%◌, ◌^◌, ◌≤◌, ◌<◌}
use mathlib.Core.Bool.{true}
use mathlib.Core.Logic.{◌⊎◌, inl, inr, ◌↔◌}
use mathlib.Core.Path.{◌≡◌, refl, sym, ap, ◌∙◌}
use native.Mathlib.Nat.{pow-suc}
use native.Mathlib.Decide.{dec_lt}
use native.Mathlib.Omega.{arith}
use borrow.Author.Tests.{eq-eqb, eqb-true, le-leb, leb-true}
use lib.Arith.{bin_ind}
use lib.Count.{ones, ones_step, ones_cat}
use lib.Pow.{pow-add, pow-lt, pow_pos}
use Rattle.std.proofs.lemmas.Nat.{zero_from_ones}
use Rattle.memory.proofs.Truth.{and_true}
use Rattle.fault_queue.specs.Queue.{legal_length}

ones-zero : ones 0 ≡ 0
unfolding ones
ones-zero = refl

ones-one : ones 1 ≡ 1
unfolding ones
ones-one = refl

-- the lowest bit
even_odd : (n : ℕ) → (n % 2 ≡ 0) ⊎ (n % 2 ≡ 1)
even_odd n = go (n % 2) (omega arith)
  where
    go : (r : ℕ) → r < 2 → (r ≡ 0) ⊎ (r ≡ 1)
    go zero l = inl refl
    go (suc zero) l = inr refl
    go (suc (suc r)) l = absurd (omega arith)

-- a number with one bit is a power of two, and a power of two has one bit
power : (n : ℕ) → ones n ≡ 1 → (k : ℕ) × (n ≡ 2 ^ k)
power = bin_ind (λ n. ones n ≡ 1 → (k : ℕ) × (n ≡ 2 ^ k)) (λ e. absurd (omega (arith, ones-zero))) (λ n ih e. go n ih e (even_odd n))
  where
    go : (n : ℕ) → (ones (n / 2) ≡ 1 → (k : ℕ) × (n / 2 ≡ 2 ^ k)) → ones n ≡ 1 → (n % 2 ≡ 0) ⊎ (n % 2 ≡ 1) → (k : ℕ) × (n ≡ 2 ^ k)
    go n ih e (inl z) =
        let s = ones_step n in
        let p = ih (omega arith) in
        (suc p.0, omega (arith, p.1, pow-suc 2 p.0))
    go n ih e (inr z) =
        let s = ones_step n in
        let o = zero_from_ones (n / 2) (omega arith) in
        (0, omega arith)

ones_power : (k : ℕ) → ones (2 ^ k) ≡ 1
ones_power k =
    let e : 2 ^ k ≡ 1 * 2 ^ k + 0 = omega arith in
    let c = ones_cat k 1 0 (pow_pos k) in
    ap ones e ∙ (let s : ones (1 * 2 ^ k + 0) ≡ 1 = omega (arith, c, ones-zero, ones-one) in s)

sixth : (k : ℕ) → 2 ^ (6 + k) ≡ 32 * 2 ^ (1 + k)
sixth k = omega (arith, pow-add 2 6 k, pow-add 2 1 k)

-- "32 times a power of two of at least 2"
pub legal_length_lem : (len : ℕ) → (legal_length len ≡ true) ↔ ((k : ℕ) × (len ≡ 32 * 2 ^ (1 + k)))
unfolding legal_length
legal_length_lem len = (to, from)
  where
    to : legal_length len ≡ true → (k : ℕ) × (len ≡ 32 * 2 ^ (1 + k))
    to e =
        let p = and_true _ _ e in
        let l = leb-true 64 len p.0 in
        let w = power len (eqb-true (ones len) 1 p.1) in
        go w.0 w.1 l (dec_lt w.0 6)
      where
        go : (k : ℕ) → len ≡ 2 ^ k → 64 ≤ len → Dec (k < 6) → (j : ℕ) × (len ≡ 32 * 2 ^ (1 + j))
        go k e l (yes h) = absurd (omega (arith, pow-lt {i = k} {j = 6} h))
        go k e l (no h) =
            let s : k ≡ 6 + (k - 6) = omega arith in
            (k - 6, e ∙ ap (λ j. 2 ^ j) s ∙ sixth (k - 6))

    from : (k : ℕ) × (len ≡ 32 * 2 ^ (1 + k)) → legal_length len ≡ true
    from (k, e) =
        let o : ones len ≡ 1 = ap ones (e ∙ sym (sixth k)) ∙ ones_power (6 + k) in
        let l : 64 ≤ len = omega (arith, pow-add 2 1 k, pow_pos k) in
        rw (le-leb 64 len l, eq-eqb (ones len) 1 o)
