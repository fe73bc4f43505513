-- Laws of the bits of a word. Assumes nothing.
use mathlib.Core.Path.{◌≡◌, refl, sym, ap, ap₂, ◌∙◌, subst}
use mathlib.Core.Bool.{Bool, true, false, not, ◌&&◌, ◌||◌}
use Prim.Native.Nat.{ℕ, zero, suc, ◌+◌, ◌-◌, ◌*◌, ◌/◌, ◌%◌, ◌^◌, ◌≤◌, ◌<◌, min, max}
use native.Mathlib.Nat.{pow-suc, add-zero, one-mul, mod-eq_of_lt, div-one, zero-add, lt_of_lt_of_le}
use native.Mathlib.Numerals.{one-add, add-one}
use native.Mathlib.Omega.{arith}
use borrow.Author.Tests.{eq-eqb, ne_eqb, eqb-true, lt-ltb, ltb-true}
use lib.Dec.{eqb, ltb}
use native.Mathlib.Decide.{dec_lt}
use lib.Arith.{mod-mul}
use lib.Pow.{shr-shr, pow-lt, pow_pos, shl_exact, shl-shr, pow_mono}
use lib.Count.{count_trailing_zeros, under, trailing_le}
use mir.Syntax.{w64}
use mir.Val.{Fits}
use mir.Facts.{Fits-le, Fits-lit}
use lib.Bits.{bit_and, bit_or, bit_xor, differ, and_step, or_step, xor_step, and_shr, or_shr, xor_shr, and_le_l, and_le_r, and_self, shifted_half, shifted_even}
use Rattle.memory.specs.Bits.{without}
use Rattle.memory.specs.Choice.{pick}
use Rattle.memory.proofs.Choices.{eqb_same, yes-is, no-is}
use Rattle.memory.proofs.Truth.{and_true}
use Rattle.word.specs.Word.{contains, digit, word_of, lowest, put_of, set_of, half, is_source, chosen, only}

-- the bit's number first, for the laws
abbrev pub bit : ℕ → ℕ → Bool
bit i x = contains x i

abbrev odd : ℕ → Bool
odd x = eqb (x % 2) 1

halved : (x r : ℕ) → r < 2 → (x * 2 + r) / 2 ≡ x
halved x r h = omega arith

-- the digits of the digits
data Two : ℕ → Type 0 where
  nought : Two 0
  one : Two 1

two : (a : ℕ) → a < 2 → Two a
two zero h = nought
two (suc zero) h = one
two (suc (suc a)) h = absurd (omega arith)

mod2 : (v : ℕ) → v % 2 < 2
mod2 v = omega arith

low_digit : (x r : ℕ) → r < 2 → (x * 2 + r) % 2 ≡ r
low_digit x r h = omega arith

odd-op : (f : ℕ → ℕ → ℕ) (g : Bool → Bool → Bool) (x a b : ℕ)
    → f 0 0 < 2 → f 0 1 < 2 → f 1 0 < 2 → f 1 1 < 2
    → eqb (f 0 0) 1 ≡ g false false → eqb (f 0 1) 1 ≡ g false true → eqb (f 1 0) 1 ≡ g true false → eqb (f 1 1) 1 ≡ g true true
    → odd (x * 2 + f (a % 2) (b % 2)) ≡ g (odd a) (odd b)
odd-op f g x a b l00 l01 l10 l11 e00 e01 e10 e11 = go (a % 2) (b % 2) (two (a % 2) (mod2 a)) (two (b % 2) (mod2 b))
  where
    go : (p q : ℕ) → Two p → Two q → eqb ((x * 2 + f p q) % 2) 1 ≡ g (eqb p 1) (eqb q 1)
    go _ _ nought nought = ap (λ (y : ℕ). eqb y 1) (low_digit x (f 0 0) l00) ∙ e00
    go _ _ nought one = ap (λ (y : ℕ). eqb y 1) (low_digit x (f 0 1) l01) ∙ e01
    go _ _ one nought = ap (λ (y : ℕ). eqb y 1) (low_digit x (f 1 0) l10) ∙ e10
    go _ _ one one = ap (λ (y : ℕ). eqb y 1) (low_digit x (f 1 1) l11) ∙ e11

abbrev pub other : Bool → Bool → Bool
other true b = not b
other false b = b

pub bit_and_lem : (i a b : ℕ) → bit i (bit_and a b) ≡ bit i a && bit i b
unfolding contains
bit_and_lem i a b = rw (and_shr, and_step) (odd-op min ◌&&◌ _ (a / 2 ^ i) (b / 2 ^ i) (omega arith) (omega arith) (omega arith) (omega arith) refl refl refl refl)

pub bit_or_lem : (i a b : ℕ) → bit i (bit_or a b) ≡ bit i a || bit i b
unfolding contains
bit_or_lem i a b = rw (or_shr, or_step) (odd-op max ◌||◌ _ (a / 2 ^ i) (b / 2 ^ i) (omega arith) (omega arith) (omega arith) (omega arith) refl refl refl refl)

pub bit_xor_lem : (i a b : ℕ) → bit i (bit_xor a b) ≡ other (bit i a) (bit i b)
unfolding contains
bit_xor_lem i a b = rw (xor_shr, xor_step) (odd-op differ other _ (a / 2 ^ i) (b / 2 ^ i) (omega arith) (omega arith) (omega arith) (omega arith) refl refl refl refl)

pub bit-zero : (v : ℕ) → bit 0 v ≡ odd v
unfolding contains
bit-zero v = rw div-one

pub bit-suc : (k v : ℕ) → bit (suc k) v ≡ bit k (v / 2)
unfolding contains
bit-suc k v = rw (shr-shr v 1 k, one-add)

odd-without : (x a b : ℕ) → odd (x * 2 + (a % 2 - min (a % 2) (b % 2))) ≡ odd a && not (odd b)
odd-without x a b = odd-op (λ p q. p - min p q) (λ p q. p && not q) x a b (omega arith) (omega arith) (omega arith) (omega arith) refl refl refl refl

without-step : (a b : ℕ) → without a b ≡ without (a / 2) (b / 2) * 2 + (a % 2 - min (a % 2) (b % 2))
without-step a b = rw (and_step a b) (omega (arith, and_le_l (a / 2) (b / 2)))

without-low : (a b : ℕ) → a % 2 - min (a % 2) (b % 2) < 2
without-low a b = omega arith

pub bit-without : (i a b : ℕ) → bit i (without a b) ≡ bit i a && not (bit i b)
bit-without zero a b = rw (bit-zero, bit-zero a, bit-zero b, without-step a b) (odd-without _ a b)
bit-without (suc i) a b =
    let h : without a b / 2 ≡ without (a / 2) (b / 2) = ap (λ (x : ℕ). x / 2) (without-step a b) ∙ halved _ _ (without-low a b) in
    rw (bit-suc i (without a b), bit-suc i a, bit-suc i b, h) (bit-without i (a / 2) (b / 2))

-- one digit
pub zero-digit : (i : ℕ) → bit i 0 ≡ false
zero-digit zero = rw bit-zero
zero-digit (suc i) = rw bit-suc (zero-digit i)

eqb-suc : (i n : ℕ) → eqb i n ≡ eqb (suc i) (suc n)
eqb-suc i n = eqb_same i n (suc i) (suc n) (λ h. omega arith) (λ h. omega arith)

pub bit_pow : (i n : ℕ) → bit i (2 ^ n) ≡ eqb i n
bit_pow zero zero = rw bit-zero
bit_pow zero (suc n) = let e : 2 ^ suc n % 2 ≡ 0 = rw pow-suc (omega arith) in rw (bit-zero, e) (sym (ne_eqb 0 (suc n) (λ h. omega arith)))
bit_pow (suc i) zero = rw (bit-suc i 1) (zero-digit i ∙ sym (ne_eqb (suc i) 0 (λ h. omega arith)))
bit_pow (suc i) (suc n) = let h : 2 ^ suc n / 2 ≡ 2 ^ n = rw pow-suc (omega arith) in rw (bit-suc i (2 ^ suc n), h) (bit_pow i n ∙ eqb-suc i n)

pub bit-one : (i n : ℕ) → n < 64 → bit i (1 * 2 ^ n % 2 ^ 64) ≡ eqb i n
bit-one i n l = rw (one-mul, mod-eq_of_lt (pow-lt l)) (bit_pow i n)

-- a number moved up
pub bit_shr : (j k x : ℕ) → bit j (x / 2 ^ k) ≡ bit (k + j) x
unfolding contains
bit_shr j k x = rw (shr-shr x k j)

pub bit_shl_high : (k j v : ℕ) → bit (k + j) (v * 2 ^ k) ≡ bit j v
bit_shl_high k j v = sym (bit_shr j k (v * 2 ^ k)) ∙ ap (bit j) (shl-shr v k)

pub bit_shl_low : (k i v : ℕ) → i < k → bit i (v * 2 ^ k) ≡ false
bit_shl_low zero i v l = absurd (omega arith)
bit_shl_low (suc k) zero v l = rw (bit-zero, shifted_even v k)
bit_shl_low (suc k) (suc i) v l = rw (bit-suc i (v * 2 ^ suc k), shifted_half v k) (bit_shl_low k i v (omega arith))

-- a number below 2 ^ i has no digit i
pub bit-above : (i v : ℕ) → v < 2 ^ i → bit i v ≡ false
bit-above zero v h = rw bit-zero (go v h)
  where
    go : (v : ℕ) → v < 2 ^ 0 → odd v ≡ false
    go zero h = refl
    go (suc v) h = absurd (omega arith)
bit-above (suc i) v h = let l : v < 2 ^ i * 2 = rw pow-suc at h in rw bit-suc (bit-above i (v / 2) (omega arith))

-- ---- a word of digits
pub word_ext : (n : ℕ) (f g : ℕ → Bool) → ((j : ℕ) → j < n → f j ≡ g j) → word_of n f ≡ word_of n g
unfolding word_of
word_ext zero f g h = refl
word_ext (suc n) f g h = ap₂ (λ (x : ℕ) (b : Bool). x * 2 + digit b) (word_ext n (λ j. f (suc j)) (λ j. g (suc j)) (λ j l. h (suc j) (omega arith))) (h 0 (omega arith))

digit-odd : (x : ℕ) → digit (odd x) ≡ x % 2
digit-odd x = go (x % 2) (two (x % 2) (mod2 x))
  where
    go : (p : ℕ) → Two p → digit (eqb p 1) ≡ p
    go _ nought = refl
    go _ one = refl

pub word_low : (n x : ℕ) → x % 2 ^ n ≡ word_of n (λ j. bit j x)
unfolding word_of
word_low zero x = omega arith
word_low (suc n) x =
    let t : word_of n (λ j. bit (suc j) x) ≡ x / 2 % 2 ^ n = word_ext n _ _ (λ j l. bit-suc j x) ∙ sym (word_low n (x / 2)) in
    rw (t, bit-zero, digit-odd, pow-suc) (mod-mul x (pow_pos n) (omega arith))

digit_lt : (b : Bool) → digit b < 2
digit_lt true = omega arith
digit_lt false = omega arith

-- its digits are those that it was made of
pub word-bit : (n k : ℕ) (f : ℕ → Bool) → k < n → bit k (word_of n f) ≡ f k
unfolding word_of
word-bit zero k f l = absurd (omega arith)
word-bit (suc n) zero f l = bit-zero _ ∙ ap (λ (y : ℕ). eqb y 1) (low_digit _ (digit (f 0)) (digit_lt (f 0))) ∙ go (f 0)
  where
    go : (b : Bool) → eqb (digit b) 1 ≡ b
    go true = refl
    go false = refl
word-bit (suc n) (suc k) f l = bit-suc k _ ∙ ap (bit k) (halved _ (digit (f 0)) (digit_lt (f 0))) ∙ word-bit n k (λ j. f (suc j)) (omega arith)

pub word_lt : (n : ℕ) (f : ℕ → Bool) → word_of n f < 2 ^ n
unfolding word_of
word_lt zero f = omega arith
word_lt (suc n) f = rw pow-suc (omega (arith, word_lt n (λ j. f (suc j)), digit_lt (f 0)))

-- numbers of n bits are told by their digits
pub same_bits : (n x y : ℕ) → x < 2 ^ n → y < 2 ^ n → ((k : ℕ) → k < n → bit k x ≡ bit k y) → x ≡ y
same_bits n x y p q h = sym (mod-eq_of_lt p) ∙ word_low n x ∙ word_ext n _ _ h ∙ sym (word_low n y) ∙ mod-eq_of_lt q

pub bit_mod : (n k x : ℕ) → k < n → bit k (x % 2 ^ n) ≡ bit k x
bit_mod n k x l = ap (bit k) (word_low n x) ∙ word-bit n k (λ j. bit j x) l

pub word_at : (k n x : ℕ) → x / 2 ^ k % 2 ^ n ≡ word_of n (λ j. bit (k + j) x)
word_at k n x = word_low n (x / 2 ^ k) ∙ word_ext n _ _ (λ j l. bit_shr j k x)

-- ---- the lowest digit
pub lowest_ext : (n k : ℕ) (f g : ℕ → Bool) → ((i : ℕ) → k ≤ i → i < k + n → f i ≡ g i) → lowest n k f ≡ lowest n k g
unfolding lowest
lowest_ext zero k f g h = refl
lowest_ext (suc n) k f g h = ap₂ (λ (b : Bool) (x : ℕ). pick b k x) (h k (omega arith) (omega arith)) (lowest_ext n (suc k) f g (λ i a b. h i (omega arith) (omega arith)))

-- the lowest is k or more
pub lowest-from : (n k : ℕ) (f : ℕ → Bool) → k ≤ lowest n k f
unfolding lowest
lowest-from zero k f = omega arith
lowest-from (suc n) k f = go (f k) (lowest-from n (suc k) f)
  where
    go : (b : Bool) → suc k ≤ lowest n (suc k) f → k ≤ pick b k (lowest n (suc k) f)
    go true h = omega arith
    go false h = omega arith

-- below k + n it is one that f has, and none before it is
pub lowest-found : (n k : ℕ) (f : ℕ → Bool) → lowest n k f < k + n → f (lowest n k f) ≡ true
unfolding lowest
lowest-found zero k f h = absurd (omega arith)
lowest-found (suc n) k f h = go (f k) refl (lowest-found n (suc k) f) h
  where
    go : (b : Bool) → f k ≡ b → (lowest n (suc k) f < suc k + n → f (lowest n (suc k) f) ≡ true) → pick b k (lowest n (suc k) f) < k + suc n → f (pick b k (lowest n (suc k) f)) ≡ true
    go true e ih l = e
    go false e ih l = ih (omega arith)

pub lowest-before : (n k : ℕ) (f : ℕ → Bool) (j : ℕ) → k ≤ j → j < lowest n k f → f j ≡ false
unfolding lowest
lowest-before zero k f j a h = absurd (omega arith)
lowest-before (suc n) k f j a h = go (f k) refl (lowest-before n (suc k) f j) h
  where
    go : (b : Bool) → f k ≡ b → (suc k ≤ j → j < lowest n (suc k) f → f j ≡ false) → j < pick b k (lowest n (suc k) f) → f j ≡ false
    go true e ih l = absurd (omega arith)
    go false e ih l = at (dec_lt k j)
      where
        at : Dec (k < j) → f j ≡ false
        at (yes p) = ih (omega arith) l
        at (no p) = let q : j ≡ k = omega arith in ap f q ∙ e

pub lowest-is : (n k r : ℕ) (f : ℕ → Bool) → k ≤ r → r < k + n → f r ≡ true → ((j : ℕ) → k ≤ j → j < r → f j ≡ false) → lowest n k f ≡ r
unfolding lowest
lowest-is zero k r f a b e h = absurd (omega arith)
lowest-is (suc n) k r f a b e h = at (dec_lt k r) (λ p. lowest-is n (suc k) r f (omega arith) (omega arith) e (λ j c d. h j (omega arith) d))
  where
    at : Dec (k < r) → (k < r → lowest n (suc k) f ≡ r) → pick (f k) k (lowest n (suc k) f) ≡ r
    at (yes p) ih = ap (λ (x : Bool). pick x k (lowest n (suc k) f)) (h k (omega arith) p) ∙ ih p
    at (no p) ih = let q : r ≡ k = omega arith in ap (λ (x : Bool). pick x k (lowest n (suc k) f)) (ap f (sym q) ∙ e) ∙ sym q

pub lowest-none : (n k : ℕ) (f : ℕ → Bool) → ((j : ℕ) → k ≤ j → j < k + n → f j ≡ false) → lowest n k f ≡ k + n
unfolding lowest
lowest-none zero k f h = sym (add-zero k)
lowest-none (suc n) k f h =
    let e : suc k + n ≡ k + suc n = omega arith in
    ap (λ (x : Bool). pick x k (lowest n (suc k) f)) (h k (omega arith) (omega arith)) ∙ lowest-none n (suc k) f (λ j a b. h j (omega arith) (omega arith)) ∙ e

pub trailing_lowest : (n k x : ℕ) → k + count_trailing_zeros n (x / 2 ^ k) ≡ lowest n k (λ i. bit i x)
unfolding lowest count_trailing_zeros contains
trailing_lowest zero k x = add-zero k
trailing_lowest (suc n) k x =
    let e : x / 2 ^ k / 2 ≡ x / 2 ^ suc k = rw (shr-shr x k 1, add-one) in
    let t : suc k + count_trailing_zeros n (x / 2 ^ k / 2) ≡ lowest n (suc k) (λ i. bit i x) = rw e (trailing_lowest n (suc k) x) in
    go (x / 2 ^ k % 2) (two _ (mod2 (x / 2 ^ k))) refl t
  where
    go : (p : ℕ) → Two p → x / 2 ^ k % 2 ≡ p → suc k + count_trailing_zeros n (x / 2 ^ k / 2) ≡ lowest n (suc k) (λ i. bit i x)
        → k + under (x / 2 ^ k % 2) (count_trailing_zeros n (x / 2 ^ k / 2)) ≡ pick (bit k x) k (lowest n (suc k) (λ i. bit i x))
    go _ nought e t = rw e (omega (arith, t))
    go _ one e t = rw e (omega arith)

-- ---- digits 1 to 63
pub within : (i : ℕ) → is_source i ≡ true → (0 < i) × (i < 64)
within i e = let p = and_true _ _ e in (ltb-true _ _ p.0, ltb-true _ _ p.1)

pub is_source_lem : (i : ℕ) → 0 < i → i < 64 → is_source i ≡ true
is_source_lem i a b = rw (lt-ltb 0 i a, lt-ltb i 64 b)

-- one digit is put
put-raised : (a b : Bool) → a || b ≡ pick b true a
put-raised true true = refl
put-raised true false = refl
put-raised false true = refl
put-raised false false = refl

put-lowered : (a b : Bool) → a && not b ≡ pick b false a
put-lowered true true = refl
put-lowered true false = refl
put-lowered false true = refl
put-lowered false false = refl

pub bit-put : (i x n : ℕ) (on : Bool) → n < 64 → bit i (put_of x n on) ≡ pick (eqb i n) on (bit i x)
bit-put i x n true l = bit_or_lem i x (1 * 2 ^ n % 2 ^ 64) ∙ rw (bit-one i n l) (put-raised (bit i x) (eqb i n))
bit-put i x n false l = bit-without i x (1 * 2 ^ n % 2 ^ 64) ∙ rw (bit-one i n l) (put-lowered (bit i x) (eqb i n))

No : Bool → Type 0
No true = ⊥
No false = Unit {0}

pub never : false ≡ true → ⊥
unfolding No
never e = subst No e tt

-- the lowest number taken out: j is in x, and none below it
odd_is : (x : ℕ) → odd x ≡ true → x % 2 ≡ 1
odd_is x e = eqb-true (x % 2) 1 e

even_is : (x : ℕ) → odd x ≡ false → x % 2 ≡ 0
even_is x e = go (x % 2) (two (x % 2) (mod2 x)) e
  where
    go : (p : ℕ) → Two p → eqb p 1 ≡ false → p ≡ 0
    go _ nought q = refl
    go _ one q = sym (absurd (never (sym q)))

step-odd : (x : ℕ) → x % 2 ≡ 1 → bit_and x (x - 1) ≡ bit_and (x / 2) (x / 2) * 2
step-odd x e =
    let h : (x - 1) / 2 ≡ x / 2 = omega arith in
    let r : (x - 1) % 2 ≡ 0 = omega arith in
    and_step x (x - 1) ∙ rw (h, r, e) (omega arith)

step-even : (x : ℕ) → 0 < x → x % 2 ≡ 0 → bit_and x (x - 1) ≡ bit_and (x / 2) (x / 2 - 1) * 2
step-even x l e =
    let h : (x - 1) / 2 ≡ x / 2 - 1 = omega arith in
    let r : (x - 1) % 2 ≡ 1 = omega arith in
    and_step x (x - 1) ∙ rw (h, r, e) (omega arith)

low_of : (y : ℕ) → bit 0 (y * 2) ≡ false
low_of y = let e : y * 2 % 2 ≡ 0 = omega arith in rw (bit-zero, e)

up_of : (i y : ℕ) → bit (suc i) (y * 2) ≡ bit i y
up_of i y = let e : y * 2 / 2 ≡ y = omega arith in rw (bit-suc, e)

pub some-bit : (j x : ℕ) → bit j x ≡ true → 0 < x
some-bit j zero e = absurd (never (sym (zero-digit j) ∙ e))
some-bit j (suc x) e = omega arith

pub clear-lowest : (j i x : ℕ) → bit j x ≡ true → ((k : ℕ) → k < j → bit k x ≡ false) → bit i (bit_and x (x - 1)) ≡ pick (eqb i j) false (bit i x)
clear-lowest zero zero x e h = ap (bit 0) (step-odd x (odd_is x (sym (bit-zero x) ∙ e))) ∙ low_of (bit_and (x / 2) (x / 2))
clear-lowest zero (suc i) x e h =
    ap (bit (suc i)) (step-odd x (odd_is x (sym (bit-zero x) ∙ e))) ∙ up_of i (bit_and (x / 2) (x / 2)) ∙ ap (bit i) (and_self (x / 2))
    ∙ sym (bit-suc i x) ∙ no-is _ _ _ _ (ne_eqb (suc i) 0 (λ q. omega arith)) refl
clear-lowest (suc j) zero x e h =
    let z : bit 0 x ≡ false = h 0 (omega arith) in
    ap (bit 0) (step-even x (some-bit (suc j) x e) (even_is x (sym (bit-zero x) ∙ z))) ∙ low_of (bit_and (x / 2) (x / 2 - 1)) ∙ sym z
    ∙ no-is _ _ _ _ (ne_eqb 0 (suc j) (λ q. omega arith)) refl
clear-lowest (suc j) (suc i) x e h =
    let z : bit 0 x ≡ false = h 0 (omega arith) in
    ap (bit (suc i)) (step-even x (some-bit (suc j) x e) (even_is x (sym (bit-zero x) ∙ z))) ∙ up_of i (bit_and (x / 2) (x / 2 - 1))
    ∙ clear-lowest j i (x / 2) (sym (bit-suc j x) ∙ e) (λ k l. sym (bit-suc k x) ∙ h (suc k) (omega arith))
    ∙ ap₂ (λ (a b : Bool). pick a false b) (eqb-suc i j) (sym (bit-suc i x))

pub clear_less : (x : ℕ) → 0 < x → bit_and x (x - 1) < x
clear_less x l = omega (arith, and_le_r x (x - 1))

-- ---- the halves
upper : (x : ℕ) → x < 2 ^ 64 → x / 2 ^ 32 ≡ x / 2 ^ 32 % 2 ^ 32
upper x h = omega arith

pub half_ext : (high : Bool) (f g : ℕ → Bool) → ((i : ℕ) → f i ≡ g i) → half high f ≡ half high g
half_ext high f g h = word_ext 32 _ _ (λ j l. h (pick high (32 + j) j))

pub half_high : (x : ℕ) → x < 2 ^ 64 → x / 2 ^ 32 ≡ half true (λ i. is_source i && bit i x)
half_high x h = upper x h ∙ word_at 32 32 x ∙ word_ext 32 _ _ (λ j l. rw (is_source_lem (32 + j) (omega arith) (omega arith)))

even-bit : (i x : ℕ) → bit i (x / 2 * 2) ≡ ltb 0 i && bit i x
even-bit zero x = let e : x / 2 * 2 % 2 ≡ 0 = omega arith in rw (bit-zero, e)
even-bit (suc i) x = let e : x / 2 * 2 / 2 ≡ x / 2 = omega arith in rw (bit-suc, bit-suc i x, e, lt-ltb 0 (suc i) (omega arith))

lower : (x : ℕ) → x / 2 % 0x8000_0000 * 2 ≡ x / 2 * 2 % 2 ^ 32
lower x = omega arith

pub half-low : (x : ℕ) → x / 2 % 0x8000_0000 * 2 ≡ half false (λ i. is_source i && bit i x)
half-low x = lower x ∙ word_low 32 (x / 2 * 2) ∙ word_ext 32 _ _ (λ j l. even-bit j x ∙ rw (lt-ltb j 64 (omega arith)) (same (ltb 0 j) (bit j x)))
  where
    same : (a b : Bool) → a && b ≡ (a && true) && b
    same true b = refl
    same false b = refl

pub mask-high : (v i : ℕ) → v < 2 ^ 32 → i < 64 → bit i (v * 2 ^ 32 % 2 ^ 64) ≡ chosen true v i
unfolding contains chosen
mask-high v i h l = ap (bit i) (shl_exact 32 32 64 h (omega arith)) ∙ go (dec_lt i 32)
  where
    go : Dec (i < 32) → bit i (v * 2 ^ 32) ≡ chosen true v i
    go (yes p) = bit_shl_low 32 i v p ∙ ap (λ (b : Bool). b && bit (i % 32) v) (sym (ne_eqb (i / 32) 1 (λ e. omega arith)))
    go (no p) =
        let e : i ≡ 32 + i % 32 = omega arith in
        ap (λ (x : ℕ). bit x (v * 2 ^ 32)) e ∙ bit_shl_high 32 (i % 32) v
        ∙ ap (λ (b : Bool). b && bit (i % 32) v) (sym (eq-eqb (i / 32) 1 (omega arith)))

pub mask_low : (v i : ℕ) → v < 2 ^ 32 → i < 64 → bit i v ≡ chosen false v i
unfolding contains chosen
mask_low v i h l = go (dec_lt i 32)
  where
    go : Dec (i < 32) → bit i v ≡ chosen false v i
    go (yes p) =
        let e : i % 32 ≡ i = omega arith in
        rw e (ap (λ (b : Bool). b && bit i v) (sym (eq-eqb (i / 32) 0 (omega arith))))
    go (no p) = bit-above i v (lt_of_lt_of_le h (pow_mono {i = 32} {j = i} (omega arith))) ∙ ap (λ (b : Bool). b && bit (i % 32) v) (sym (ne_eqb (i / 32) 0 (λ e. omega arith)))

pub one_bit : (n i : ℕ) → n < 64 → is_source i ≡ true → contains (1 * 2 ^ n % 2 ^ 64) i ≡ only n i
unfolding only
one_bit n i l h = bit-one i n l

pub no-bit : (n i : ℕ) → 64 ≤ n → is_source i ≡ true → contains 0 i ≡ only n i
unfolding only
no-bit n i l h = let w = within i h in zero-digit i ∙ sym (ne_eqb i n (λ e. omega arith))

pub even_up : (x i : ℕ) → 1 ≤ i → bit i (x / 2 * 2) ≡ bit i x
even_up x i a = even-bit i x ∙ ap (λ (b : Bool). b && bit i x) (lt-ltb 0 i (omega arith))

pub even-zero : (x : ℕ) → bit 0 (x / 2 * 2) ≡ false
even-zero x = even-bit 0 x

pub first-is : (x : ℕ) → count_trailing_zeros 64 (x / 2 * 2) ≡ lowest 63 1 (contains x)
unfolding lowest
first-is x =
    let a : 0 + count_trailing_zeros 64 (x / 2 * 2 / 2 ^ 0) ≡ lowest 64 0 (λ i. bit i (x / 2 * 2)) = trailing_lowest 64 0 (x / 2 * 2) in
    let b : 0 + count_trailing_zeros 64 (x / 2 * 2 / 2 ^ 0) ≡ count_trailing_zeros 64 (x / 2 * 2) = zero-add _ ∙ ap (count_trailing_zeros 64) (div-one (x / 2 * 2)) in
    let c : bit 0 (x / 2 * 2) ≡ false = even-bit 0 x in
    sym b ∙ a ∙ ap (λ (t : Bool). pick t 0 (lowest 63 1 (λ i. bit i (x / 2 * 2)))) c
    ∙ lowest_ext 63 1 (λ i. bit i (x / 2 * 2)) (λ i. bit i x) (λ i l h. even_up x i l)

pub first_fits : (x : ℕ) → Fits w64 (count_trailing_zeros 64 x)
first_fits x = Fits-le (trailing_le 64 x) (Fits-lit tt)

-- by a flag
pub half_up : (high : Bool) (x : ℕ) → high ≡ true → x < 2 ^ 64 → x / 2 ^ 32 ≡ half high (λ i. is_source i && bit i x)
half_up high x e h = half_high x h ∙ ap (λ (b : Bool). half b (λ i. is_source i && bit i x)) (sym e)

pub half_down : (high : Bool) (x : ℕ) → high ≡ false → x / 2 % 0x8000_0000 * 2 ≡ half high (λ i. is_source i && bit i x)
half_down high x e = half-low x ∙ ap (λ (b : Bool). half b (λ i. is_source i && bit i x)) (sym e)

pub mask_up : (high : Bool) (v i : ℕ) → high ≡ true → v < 2 ^ 32 → is_source i ≡ true → contains (v * 2 ^ 32 % 2 ^ 64) i ≡ chosen high v i
mask_up high v i e h l = mask-high v i h (within i l).1 ∙ ap (λ (b : Bool). chosen b v i) (sym e)

pub mask_down : (high : Bool) (v i : ℕ) → high ≡ false → v < 2 ^ 32 → is_source i ≡ true → contains v i ≡ chosen high v i
mask_down high v i e h l = mask_low v i h (within i l).1 ∙ ap (λ (b : Bool). chosen b v i) (sym e)

-- every number
full-half : (n : ℕ) → (2 ^ suc n - 1) / 2 ≡ 2 ^ n - 1
full-half n = rw pow-suc (omega (arith, pow_pos n))

full : (n i : ℕ) → i < n → bit i (2 ^ n - 1) ≡ true
full zero i l = absurd (omega arith)
full (suc n) zero l = let e : (2 ^ suc n - 1) % 2 ≡ 1 = rw pow-suc (omega (arith, pow_pos n)) in rw (bit-zero, e)
full (suc n) (suc i) l = rw (bit-suc i (2 ^ suc n - 1), full-half n) (full n i (omega arith))

pub every-on : (on : Bool) (i : ℕ) → on ≡ true → is_source i ≡ true → contains 0xffff_ffff_ffff_ffff i ≡ on
every-on on i e h = full 64 i (within i h).1 ∙ sym e

pub every-off : (on : Bool) (i : ℕ) → on ≡ false → is_source i ≡ true → contains 0 i ≡ on
every-off on i e h = zero-digit i ∙ sym e

pub bit-set : (i x m : ℕ) (on : Bool) → bit i (set_of x m on) ≡ pick on (bit i x || bit i m) (bit i x && not (bit i m))
bit-set i x m true = bit_or_lem i x m
bit-set i x m false = bit-without i x m

pub ruleset words = (and_le_l, yes-is, no-is, half_up, half_down, mask_up, mask_down, one_bit, no-bit, every-on, every-off, first-is, first_fits)
