-- The take of many: the pending bits and the bytes that it leaves, that one store of its doubleword makes them, and that of one bit it is the take of one. Assumes nothing.
use Prim.Native.Nat.{ℕ, zero, suc, ◌+◌, ◌-◌, ◌*◌, ◌/◌, ◌%◌, ◌^◌, ◌≤◌, ◌<◌}
use mathlib.Core.Bool.{Bool, true, false, not, ◌&&◌}
use mathlib.Core.List.{List, ◌++◌}
use mathlib.Core.Path.{◌≡◌, refl, sym, ap, ap₂, subst, ◌∙◌}
use mathlib.Core.Logic.{◌⊎◌, inl, inr}
use native.Mathlib.Nat.{add-zero, div-one, mod-eq_of_lt, mod-lt, one-mul, zero-mul}
use native.Mathlib.Omega.{arith}
use native.Mathlib.Decide.{ℕ_discrete, dec_lt}
use borrow.Author.Tests.{eq-eqb, ne_eqb, eqb-true, eqb-false}
use borrow.Rule.Slice.PartMut.{post_of, same_len_mid, mid_len, take_put, drop_put}
use lib.Dec.{eqb}
use lib.Bits.{bit_and, and_le_l}
use lib.ListN.{length, get_or, take}
use lib.Pow.{pow-lt}
use lib.Seq.{length-take-le, get_or-append-add, get_or-take, get_or-drop, ext_get_or}
use Rattle.memory.specs.Bits.{without}
use Rattle.memory.specs.Choice.{pick}
use Rattle.memory.specs.Code.{eight}
use Rattle.memory.specs.Window.{doubleword}
use Rattle.memory.proofs.Loads.{part-word}
use Rattle.memory.proofs.Truth.{true-false, and_on, and_off, and_true}
use Rattle.word.specs.Word.{contains, word_of}
use Rattle.word.proofs.Bits.{bit_and_lem, bit-without, bit_pow, bit_mod, bit_shr, word_low, word_ext, word-bit, word_lt, same_bits, zero-digit}
use Rattle.interrupt_file.specs.Bit.{bit_at}
use Rattle.interrupt_file.specs.File.{is_file, place_of, pending_of, after_take, taken_of, taken_to, after_take_many}
use Rattle.interrupt_file.proofs.Bytes.{Bytes, take-bytes, doubleword_lt}
use Rattle.interrupt_file.proofs.Files.{file-at, lent, back}
use Rattle.interrupt_file.proofs.Pending.{length-after_take, pending_lt, pending-taken, pending-take-other, take-kept}
use Rattle.interrupt_file.proofs.Doublewords.{pending-bit}

-- a byte of the eight
eight-byte : (v : ℕ) (zs : List ℕ) (j : ℕ) → j < 8 → get_or (eight v ++ zs) j 0 ≡ v / 2 ^ (8 * j) % 2 ^ 8
unfolding eight
eight-byte v zs zero l = rw div-one
eight-byte v zs (suc zero) l = refl
eight-byte v zs (suc (suc zero)) l = refl
eight-byte v zs (suc (suc (suc zero))) l = refl
eight-byte v zs (suc (suc (suc (suc zero)))) l = refl
eight-byte v zs (suc (suc (suc (suc (suc zero))))) l = refl
eight-byte v zs (suc (suc (suc (suc (suc (suc zero)))))) l = refl
eight-byte v zs (suc (suc (suc (suc (suc (suc (suc zero))))))) l = refl
eight-byte v zs (suc (suc (suc (suc (suc (suc (suc (suc j)))))))) l = absurd (omega arith)

-- what the code reads, and what it writes
module _ (xs : List ℕ) (mask b : ℕ) (h : b ≡ doubleword xs 0) where
  pub bits-read : bit_and b mask ≡ bit_and (doubleword xs 0) mask
  bits-read = ap (λ (v : ℕ). bit_and v mask) h

  pub bits-written : (w : ℕ) (ys : List ℕ) → w ≡ without b mask → ys ≡ eight w → ys ≡ eight (without (doubleword xs 0) mask)
  bits-written w ys e k = k ∙ ap eight (e ∙ ap (λ (v : ℕ). without v mask) h)

pub ruleset bits_ways = (bits-read, bits-written)

module _ (start : ℕ) (xs : List ℕ) (file d mask : ℕ) where
  abbrev to : ℕ → List ℕ
  to k = taken_to start xs file d mask k

  pub taken_lt : taken_of start xs file d mask < 2 ^ 64
  unfolding taken_of
  taken_lt = word_lt 64 (λ k. contains mask k && eqb (pending_of start xs file (64 * d + k)) 1)

  -- by whether an identity is in the mask
  to_in : (k : ℕ) → contains mask k ≡ true → to (suc k) ≡ after_take start (to k) file (64 * d + k)
  unfolding taken_to
  to_in k e = rw e

  to_out : (k : ℕ) → contains mask k ≡ false → to (suc k) ≡ to k
  unfolding taken_to
  to_out k e = rw e

  to_none : to 0 ≡ xs
  unfolding taken_to
  to_none = refl

  to_step : (P : List ℕ → Type 0) (k : ℕ) → (contains mask k ≡ true → P (after_take start (to k) file (64 * d + k))) → (contains mask k ≡ false → P (to k)) → P (to (suc k))
  to_step P k f g = go (contains mask k) refl
    where
      go : (b : Bool) → contains mask k ≡ b → P (to (suc k))
      go true e = subst P (sym (to_in k e)) (f e)
      go false e = subst P (sym (to_out k e)) (g e)

  pub length_taken : (k : ℕ) → length (to k) ≡ length xs
  length_taken zero = ap (λ (ys : List ℕ). length ys) to_none
  length_taken (suc k) =
      to_step (λ ys. length ys ≡ length xs) k (λ e. length-after_take start (to k) file (64 * d + k) ∙ length_taken k) (λ e. length_taken k)

  pub taken-bytes : (k : ℕ) → Bytes xs → Bytes (to k)
  taken-bytes zero h = subst Bytes (sym to_none) h
  taken-bytes (suc k) h = to_step Bytes k (λ e. take-bytes start (to k) file (64 * d + k) (taken-bytes k h)) (λ e. taken-bytes k h)

  module _ (hf : is_file start (length xs) file ≡ true) (ld : d < 32) where
    held : (g k : ℕ) → is_file start (length xs) g ≡ true → is_file start (length (to k)) g ≡ true
    held g k h = subst (λ (n : ℕ). is_file start n g ≡ true) (sym (length_taken k)) h

    identity_lt : (k : ℕ) → k < 64 → 64 * d + k < 2048
    identity_lt k l = omega arith

    -- a bit that isn't in the mask is as it was
    pub pending-left : (g m : ℕ) → is_file start (length xs) g ≡ true → m < 2048 → (k : ℕ) → k ≤ 64
        → ((r : ℕ) → r < k → contains mask r ≡ true → g ≡ file → m ≡ 64 * d + r → ⊥) → pending_of start (to k) g m ≡ pending_of start xs g m
    pending-left g m hg lm zero l h = ap (λ (ys : List ℕ). pending_of start ys g m) to_none
    pending-left g m hg lm (suc k) l h =
        to_step (λ ys. pending_of start ys g m ≡ pending_of start xs g m) k
        (λ e. pending-take-other start (to k) file (64 * d + k) (held file k hf) (identity_lt k (omega arith)) g m (held g k hg) lm (λ x y. h k (omega arith) e x y)
        ∙ pending-left g m hg lm k (omega arith) (λ r p. h r (omega arith)))
        (λ e. pending-left g m hg lm k (omega arith) (λ r p. h r (omega arith)))

    -- one that is, is 0
    pub pending-cleared : (k r : ℕ) → k ≤ 64 → r < k → contains mask r ≡ true → pending_of start (to k) file (64 * d + r) ≡ 0
    pending-cleared zero r l p e = absurd (omega arith)
    pending-cleared (suc k) r l p e = go (ℕ_discrete r k) (λ q. pending-cleared k r (omega arith) q e)
      where
        differs : (r ≡ k → ⊥) → file ≡ file → 64 * d + r ≡ 64 * d + k → ⊥
        differs q x y = q (omega arith)

        go : Dec (r ≡ k) → (r < k → pending_of start (to k) file (64 * d + r) ≡ 0) → pending_of start (to (suc k)) file (64 * d + r) ≡ 0
        go (yes q) ih =
            let c : contains mask k ≡ true = ap (contains mask) (sym q) ∙ e in
            ap₂ (λ (ys : List ℕ) (j : ℕ). pending_of start ys file (64 * d + j)) (to_in k c) q
            ∙ pending-taken start (to k) file (64 * d + k) (held file k hf) (identity_lt k (omega arith))
        go (no q) ih =
            to_step (λ ys. pending_of start ys file (64 * d + r) ≡ 0) k
            (λ c. pending-take-other start (to k) file (64 * d + k) (held file k hf) (identity_lt k (omega arith)) file (64 * d + r) (held file k hf) (identity_lt r (omega arith)) (differs q)
            ∙ ih (omega arith))
            (λ c. ih (omega arith))

    -- the answered bits, and the pending bits after: each answered one is 0, and every other as it was
    pub answered-bit : (k : ℕ) → k < 64 → contains (taken_of start xs file d mask) k ≡ (contains mask k && eqb (pending_of start xs file (64 * d + k)) 1)
    unfolding taken_of
    answered-bit k l = word-bit 64 k (λ j. contains mask j && eqb (pending_of start xs file (64 * d + j)) 1) l

    abbrev strikes : ℕ → ℕ → Bool
    strikes g m = eqb file g && (eqb d (m / 64) && contains (taken_of start xs file d mask) (m % 64))

    pub pending_after_lem : (g m : ℕ) → is_file start (length xs) g ≡ true → m < 2048
        → pending_of start (after_take_many start xs file d mask) g m ≡ pick (strikes g m) 0 (pending_of start xs g m)
    pending_after_lem g m hg lm = by-file (ℕ_discrete file g) (ℕ_discrete d (m / 64))
      where
        split : d ≡ m / 64 → m ≡ 64 * d + m % 64
        split e = omega arith

        elsewhere : (file ≡ g → ⊥) ⊎ (d ≡ m / 64 → ⊥) → (r : ℕ) → r < 64 → contains mask r ≡ true → g ≡ file → m ≡ 64 * d + r → ⊥
        elsewhere (inl h) r l c x y = h (sym x)
        elsewhere (inr h) r l c x y = h (omega arith)

        here : file ≡ g → d ≡ m / 64 → (a b : Bool) → contains mask (m % 64) ≡ a → eqb (pending_of start xs g m) 1 ≡ b
            → pending_of start (to 64) g m ≡ pick (a && b) 0 (pending_of start xs g m)
        here x y true b e f =
            let z : pending_of start (to 64) g m ≡ 0 = ap₂ (λ (h i : ℕ). pending_of start (to 64) h i) (sym x) (split y) ∙ pending-cleared 64 (m % 64) (omega arith) (omega arith) e in
            was b f z
          where
            was : (b : Bool) → eqb (pending_of start xs g m) 1 ≡ b → pending_of start (to 64) g m ≡ 0 → pending_of start (to 64) g m ≡ pick b 0 (pending_of start xs g m)
            was true f z = z
            was false f z = omega (arith, z, eqb-false (pending_of start xs g m) 1 f, pending_lt start xs g m)
        here x y false b e f =
            pending-left g m hg lm 64 (omega arith) (λ r l c p q. true-false (sym c ∙ ap (contains mask) (let o : r ≡ m % 64 = omega arith in o) ∙ e))

        own : file ≡ g → d ≡ m / 64 → contains (taken_of start xs file d mask) (m % 64) ≡ (contains mask (m % 64) && eqb (pending_of start xs g m) 1)
        own x y =
            answered-bit (m % 64) (omega arith)
            ∙ ap (λ (v : ℕ). contains mask (m % 64) && eqb v 1) (ap₂ (λ (h i : ℕ). pending_of start xs h i) x (sym (split y)))

        by-file : Dec (file ≡ g) → Dec (d ≡ m / 64) → pending_of start (to 64) g m ≡ pick (strikes g m) 0 (pending_of start xs g m)
        by-file (yes x) (yes y) = rw (eq-eqb file g x, eq-eqb d (m / 64) y, own x y) (here x y _ _ refl refl)
        by-file (yes x) (no y) = rw (eq-eqb file g x, ne_eqb d (m / 64) y) (pending-left g m hg lm 64 (omega arith) (elsewhere (inr y)))
        by-file (no x) y = rw (ne_eqb file g x) (pending-left g m hg lm 64 (omega arith) (elsewhere (inl x)))

    -- an answered bit was pending
    pub struck-pending : (g m : ℕ) → strikes g m ≡ true → pending_of start xs g m ≡ 1
    struck-pending g m e =
        let p = and_true (eqb file g) _ e in
        let q = and_true (eqb d (m / 64)) _ p.1 in
        let r = and_true (contains mask (m % 64)) _ (sym (answered-bit (m % 64) (omega arith)) ∙ q.1) in
        let x = eqb-true file g p.0 in
        let y = eqb-true d (m / 64) q.0 in
        let s : 64 * d + m % 64 ≡ m = omega arith in
        ap₂ (λ (h i : ℕ). pending_of start xs h i) (sym x) (sym s) ∙ eqb-true (pending_of start xs file (64 * d + m % 64)) 1 r.1

    -- "no byte but one with an answered bit changes"
    pub byte-kept : (i k : ℕ) → k ≤ 64
        → ((r : ℕ) → r < k → contains mask r ≡ true → pending_of start xs file (64 * d + r) ≡ 1 → i ≡ place_of file (64 * d + r) - start → ⊥)
        → get_or (to k) i 0 ≡ get_or xs i 0
    byte-kept i zero l h = ap (λ (ys : List ℕ). get_or ys i 0) to_none
    byte-kept i (suc k) l h =
        to_step (λ ys. get_or ys i 0 ≡ get_or xs i 0) k
        (λ e. take-kept start (to k) file (64 * d + k) i (λ p w. h k (omega arith) e (sym (not_yet k (omega arith)) ∙ w) p)
        ∙ byte-kept i k (omega arith) (λ r p. h r (omega arith)))
        (λ e. byte-kept i k (omega arith) (λ r p. h r (omega arith)))
      where
        later : (j r : ℕ) → r < j → 64 * d + j ≡ 64 * d + r → ⊥
        later j r l e = omega arith

        not_yet : (j : ℕ) → j < 64 → pending_of start (to j) file (64 * d + j) ≡ pending_of start xs file (64 * d + j)
        not_yet j l = pending-left file (64 * d + j) hf (identity_lt j l) j (omega arith) (λ r p c x y. later j r p y)

    -- ---- the doubleword of the code: its index, and bytes as a lent window has them
    module _ (at : ℕ) (place : start + at ≡ file + 16 * d) (room : at + 8 ≤ length xs) (byte : Bytes xs) where
      abbrev before : ℕ
      before = doubleword xs at

      index_is : (k : ℕ) → k < 64 → place_of file (64 * d + k) - start ≡ at + k / 8
      index_is k l = omega arith

      -- an identity's bit of it
      pending-is : (k : ℕ) → k < 64 → contains before k ≡ eqb (pending_of start xs file (64 * d + k)) 1
      unfolding contains
      pending-is k l =
          let p = pending-bit start xs file (64 * d + k) byte (file-at hf).after in
          sym (ap (λ (v : ℕ). eqb v 1) (p ∙ ap₂ (λ (a j : ℕ). doubleword xs a / 2 ^ j % 2) (words k l) (low k l)))
        where
          words : (k : ℕ) → k < 64 → file + 16 * ((64 * d + k) / 64) - start ≡ at
          words k l = omega arith

          low : (k : ℕ) → k < 64 → (64 * d + k) % 64 ≡ k
          low k l = omega arith

      lent-word : doubleword (lent at xs) 0 ≡ before
      lent-word = part-word xs at (at + 8 - at) 0 (omega arith) ∙ ap (doubleword xs) (add-zero at)

      and_turned : (a b : Bool) → (a && b) ≡ (b && a)
      and_turned true true = refl
      and_turned true false = refl
      and_turned false true = refl
      and_turned false false = refl

      pub were_set : (r : ℕ) → r ≡ bit_and (doubleword (lent at xs) 0) mask → r ≡ taken_of start xs file d mask
      unfolding taken_of
      were_set r e =
          let w = doubleword_lt xs byte at in
          let lt : bit_and before mask < 2 ^ 64 = omega (arith, and_le_l before mask) in
          e ∙ ap (λ (v : ℕ). bit_and v mask) lent-word ∙ sym (mod-eq_of_lt lt) ∙ word_low 64 (bit_and before mask)
          ∙ word_ext 64 _ _ (λ k l. bit_and_lem k before mask ∙ and_turned (contains before k) (contains mask k) ∙ ap (λ (b : Bool). contains mask k && b) (pending-is k l))

      -- each byte of the eight
      bit-pending : (j k : ℕ) → j < 8 → k < 8 → contains (get_or (to 64) (at + j) 0) k ≡ eqb (pending_of start (to 64) file (64 * d + (8 * j + k))) 1
      unfolding contains pending_of bit_at
      bit-pending j k lj lk =
          ap₂ (λ (i e : ℕ). eqb (get_or (to 64) i 0 / 2 ^ e % 2) 1) (sym (index_is (8 * j + k) (omega arith) ∙ same j k lk)) (sym (digit j k lk))
        where
          same : (j k : ℕ) → k < 8 → at + (8 * j + k) / 8 ≡ at + j
          same j k lk = omega arith

          digit : (j k : ℕ) → k < 8 → (64 * d + (8 * j + k)) % 8 ≡ k
          digit j k lk = omega arith

      bit-after : (j k : ℕ) → j < 8 → k < 8 → contains (get_or (to 64) (at + j) 0) k ≡ (contains before (8 * j + k) && not (contains mask (8 * j + k)))
      bit-after j k lj lk = bit-pending j k lj lk ∙ go (contains mask (8 * j + k)) refl
        where
          differs : (r : ℕ) → contains mask r ≡ true → contains mask (8 * j + k) ≡ false → 64 * d + (8 * j + k) ≡ 64 * d + r → ⊥
          differs r c o e = true-false (sym c ∙ ap (contains mask) (let q : r ≡ 8 * j + k = omega arith in q) ∙ o)

          go : (b : Bool) → contains mask (8 * j + k) ≡ b
              → eqb (pending_of start (to 64) file (64 * d + (8 * j + k))) 1 ≡ (contains before (8 * j + k) && not b)
          go true e =
              ap (λ (v : ℕ). eqb v 1) (pending-cleared 64 (8 * j + k) (omega arith) (omega arith) e) ∙ sym (and_off (contains before (8 * j + k)))
          go false e =
              ap (λ (v : ℕ). eqb v 1)
              (pending-left file (64 * d + (8 * j + k)) hf (identity_lt (8 * j + k) (omega arith)) 64 (omega arith) (λ r l c x y. differs r c e y))
              ∙ sym (pending-is (8 * j + k) (omega arith)) ∙ sym (and_on (contains before (8 * j + k)))

      byte-after : (j : ℕ) → j < 8 → without before mask / 2 ^ (8 * j) % 2 ^ 8 ≡ get_or (to 64) (at + j) 0
      byte-after j lj =
          same_bits 8 _ _ (mod-lt _ (omega arith)) (taken-bytes 64 byte (at + j))
          (λ k lk. bit_mod 8 k _ lk ∙ bit_shr k (8 * j) (without before mask) ∙ bit-without (8 * j + k) before mask ∙ sym (bit-after j k lj lk))

      -- the eight bytes, and those around them
      abbrev end : ℕ
      end = at + 8

      abbrev put : List ℕ
      put = back at xs (eight (without before mask))

      eight-long : length (eight (without before mask)) ≡ at + 8 - at
      unfolding eight
      eight-long = omega arith

      mid_byte : (j : ℕ) → j < 8 → get_or put (at + j) 0 ≡ get_or (to 64) (at + j) 0
      mid_byte j lj =
          ap (λ (n : ℕ). get_or put (n + j) 0) (sym (length-take-le at xs (omega arith)))
          ∙ get_or-append-add (take at xs) (eight (without before mask) ++ post_of at (at + 8 - at) xs) j 0
          ∙ eight-byte (without before mask) (post_of at (at + 8 - at) xs) j lj ∙ byte-after j lj

      low_byte : (i : ℕ) → i < at → get_or put i 0 ≡ get_or xs i 0
      low_byte i l =
          sym (get_or-take at put i 0 l) ∙ ap (λ (ys : List ℕ). get_or ys i 0) (take_put at (at + 8 - at) xs (eight (without before mask)) (omega arith)) ∙ get_or-take at xs i 0 l

      high_byte : (i : ℕ) → at + 8 ≤ i → get_or put i 0 ≡ get_or xs i 0
      high_byte i l =
          let e : at + 8 + (i - (at + 8)) ≡ i = omega arith in
          ap (λ (n : ℕ). get_or put n 0) (sym e) ∙ sym (get_or-drop end put (i - end) 0)
          ∙ ap (λ (ys : List ℕ). get_or ys (i - end) 0) (drop_put at end xs (eight (without before mask)) (omega arith) room eight-long) ∙ get_or-drop end xs (i - end) 0 ∙ ap (λ (n : ℕ). get_or xs n 0) e

      -- where none of its bits is
      outside : (i : ℕ) → ((k : ℕ) → k < 64 → i ≡ at + k / 8 → ⊥) → get_or xs i 0 ≡ get_or (to 64) i 0
      outside i h = sym (byte-kept i 64 (omega arith) (λ r l c w e. h r l (e ∙ index_is r l)))

      pub left_by : (ys : List ℕ) → ys ≡ eight (without (doubleword (lent at xs) 0) mask) → back at xs ys ≡ after_take_many start xs file d mask
      left_by ys e =
          ap (λ (zs : List ℕ). back at xs zs) (e ∙ ap (λ (v : ℕ). eight (without v mask)) lent-word)
          ∙ ext_get_or 0 put (to 64) (same_len_mid at (at + 8 - at) xs (eight (without before mask)) (eight-long ∙ sym (mid_len at end xs room)) ∙ sym (length_taken 64)) (λ i l. go i (dec_lt i at) (dec_lt i end))
        where
          below : (i : ℕ) → i < at → (k : ℕ) → k < 64 → i ≡ at + k / 8 → ⊥
          below i p k l q = omega arith

          above : (i : ℕ) → at + 8 ≤ i → (k : ℕ) → k < 64 → i ≡ at + k / 8 → ⊥
          above i p k l q = omega arith

          go : (i : ℕ) → Dec (i < at) → Dec (i < at + 8) → get_or put i 0 ≡ get_or (to 64) i 0
          go i (yes p) q = low_byte i p ∙ outside i (below i p)
          go i (no p) (yes q) =
              let e : at + (i - at) ≡ i = omega arith in
              ap (λ (n : ℕ). get_or put n 0) (sym e) ∙ mid_byte (i - at) (omega arith) ∙ ap (λ (n : ℕ). get_or (to 64) n 0) e
          go i (no p) (no q) = high_byte i (omega arith) ∙ outside i (above i (omega arith))

-- ---- of one bit
module _ (start : ℕ) (xs : List ℕ) (file n : ℕ) where
  abbrev one : ℕ → List ℕ
  one k = taken_to start xs file (n / 64) (2 ^ (n % 64)) k

  own : 64 * (n / 64) + n % 64 ≡ n
  own = omega arith

  one_below : (k : ℕ) → k ≤ n % 64 → one k ≡ xs
  one_below zero l = to_none start xs file (n / 64) (2 ^ (n % 64))
  one_below (suc k) l =
      to_out start xs file (n / 64) (2 ^ (n % 64)) k (bit_pow k (n % 64) ∙ ne_eqb k (n % 64) (λ e. omega arith)) ∙ one_below k (omega arith)

  one-above : (k : ℕ) → n % 64 < k → one k ≡ after_take start xs file n
  one-above zero l = absurd (omega arith)
  one-above (suc k) l = go (ℕ_discrete k (n % 64)) (λ p. one-above k p)
    where
      go : Dec (k ≡ n % 64) → (n % 64 < k → one k ≡ after_take start xs file n) → one (suc k) ≡ after_take start xs file n
      go (yes e) ih =
          to_in start xs file (n / 64) (2 ^ (n % 64)) k (bit_pow k (n % 64) ∙ eq-eqb k (n % 64) e)
          ∙ ap₂ (λ (ys : List ℕ) (i : ℕ). after_take start ys file (64 * (n / 64) + i)) (one_below k (omega arith)) e
          ∙ ap (λ (i : ℕ). after_take start xs file i) own
      go (no e) ih = to_out start xs file (n / 64) (2 ^ (n % 64)) k (bit_pow k (n % 64) ∙ ne_eqb k (n % 64) e) ∙ ih (omega arith)

  pub one_left : after_take_many start xs file (n / 64) (2 ^ (n % 64)) ≡ after_take start xs file n
  one_left = one-above 64 (omega arith)

  pub one-taken : taken_of start xs file (n / 64) (2 ^ (n % 64)) ≡ pending_of start xs file n * 2 ^ (n % 64)
  unfolding taken_of
  one-taken = go (pending_of start xs file n) refl (pending_lt start xs file n)
    where
      own-digit : (k : ℕ) → k ≡ n % 64 → eqb (pending_of start xs file (64 * (n / 64) + k)) 1 ≡ eqb (pending_of start xs file n) 1
      own-digit k e = ap (λ (i : ℕ). eqb (pending_of start xs file i) 1) (ap (λ (j : ℕ). 64 * (n / 64) + j) e ∙ own)

      digit-is : (b : Bool) → eqb (pending_of start xs file n) 1 ≡ b → (k : ℕ)
          → (contains (2 ^ (n % 64)) k && eqb (pending_of start xs file (64 * (n / 64) + k)) 1) ≡ (eqb k (n % 64) && b)
      digit-is b h k = at (ℕ_discrete k (n % 64))
        where
          at : Dec (k ≡ n % 64) → (contains (2 ^ (n % 64)) k && eqb (pending_of start xs file (64 * (n / 64) + k)) 1) ≡ (eqb k (n % 64) && b)
          at (yes e) = rw (bit_pow k (n % 64), eq-eqb k (n % 64) e) (own-digit k e ∙ h)
          at (no e) = rw (bit_pow k (n % 64), ne_eqb k (n % 64) e)

      and_none : (b : Bool) → (b && false) ≡ false
      and_none true = refl
      and_none false = refl

      go : (p : ℕ) → pending_of start xs file n ≡ p → p < 2
          → word_of 64 (λ k. contains (2 ^ (n % 64)) k && eqb (pending_of start xs file (64 * (n / 64) + k)) 1) ≡ p * 2 ^ (n % 64)
      go zero h l =
          word_ext 64 _ _ (λ k q. digit-is false (rw h) k ∙ and_none (eqb k (n % 64)) ∙ sym (zero-digit k)) ∙ sym (word_low 64 0) ∙ sym (zero-mul (2 ^ (n % 64)))
      go (suc zero) h l =
          word_ext 64 _ _ (λ k q. digit-is true (rw h) k ∙ and_on (eqb k (n % 64)) ∙ sym (bit_pow k (n % 64))) ∙ sym (word_low 64 (2 ^ (n % 64)))
          ∙ mod-eq_of_lt (pow-lt {i = n % 64} {j = 64} (omega arith)) ∙ sym (one-mul (2 ^ (n % 64)))
      go (suc (suc p)) h l = absurd (omega arith)
