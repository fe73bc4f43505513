-- The test of a leaf by mask and compare says what tests of its bits say. Assumes nothing.
use Prim.Native.Nat.{ℕ, zero, suc, ◌+◌, ◌*◌, ◌/◌, ◌%◌, ◌^◌, ◌<◌, min}
use mathlib.Core.Bool.{Bool, true, false, not, ◌&&◌, ◌||◌}
use mathlib.Core.List.{List, [], ◌∷◌}
use mathlib.Core.Path.{◌≡◌, refl, sym, ap, ◌∙◌}
use native.Mathlib.Nat.{div-div-eq-div-mul, div-one, pow-suc, min-le_left}
use native.Mathlib.Omega.{arith}
use lib.Bits.{bit_and, and_step, and_high, and_zero_r}
use lib.Dec.{eqb}
use borrow.Author.Tests.{eq-eqb, ne_eqb, eqb-true, eqb-false}
use Rattle.memory.specs.Bits.{bits, bit}
use Rattle.causes.specs.declared.Access.{Access}
use Rattle.causes.specs.declared.Access.TheVariants.{Read, Write, Execute}
use Rattle.paging_entry.specs.declared.Pages.{Pages}
use Rattle.paging_entry.specs.declared.Pages.TheVariants.{User, Supervisor, Any}
use Rattle.paging_entry.specs.Entry.{entry_page, owned_by}
use Rattle.paging_entry.specs.Code.{test_of, leaf_bits}
use Rattle.memory.proofs.Truth.{Row, all, every, same, is_same}

-- numbers are equal where their last bits are and their halves
halves : (p c w : ℕ) → c < 2 → eqb (p * 2 + c) w ≡ (eqb c (w % 2) && eqb p (w / 2))
halves p c w h = go (eqb c (w % 2)) (eqb p (w / 2)) refl refl
  where
    go : (x y : Bool) → eqb c (w % 2) ≡ x → eqb p (w / 2) ≡ y → eqb (p * 2 + c) w ≡ (x && y)
    go true true a b = eq-eqb (p * 2 + c) w (omega (arith, eqb-true c (w % 2) a, eqb-true p (w / 2) b))
    go true false a b = ne_eqb (p * 2 + c) w (λ k. eqb-false p (w / 2) b (omega arith))
    go false y a b = ne_eqb (p * 2 + c) w (λ k. eqb-false c (w % 2) a (omega arith))

-- a bit b under a mask's bit m, where w is wanted
abbrev passes : ℕ → ℕ → Bool → Bool
passes zero zero b = true
passes zero (suc w) b = false
passes (suc m) zero b = not b
passes (suc m) (suc w) b = b

bit-passes : (b m w : ℕ) → b < 2 → m < 2 → w < 2 → eqb (min b m) w ≡ passes m w (eqb b 1)
bit-passes zero zero zero hb hm hw = refl
bit-passes zero zero (suc zero) hb hm hw = refl
bit-passes zero (suc zero) zero hb hm hw = refl
bit-passes zero (suc zero) (suc zero) hb hm hw = refl
bit-passes (suc zero) zero zero hb hm hw = refl
bit-passes (suc zero) zero (suc zero) hb hm hw = refl
bit-passes (suc zero) (suc zero) zero hb hm hw = refl
bit-passes (suc zero) (suc zero) (suc zero) hb hm hw = refl
bit-passes (suc (suc b)) m w hb hm hw = absurd (omega arith)
bit-passes zero (suc (suc m)) w hb hm hw = absurd (omega arith)
bit-passes (suc zero) (suc (suc m)) w hb hm hw = absurd (omega arith)
bit-passes zero zero (suc (suc w)) hb hm hw = absurd (omega arith)
bit-passes zero (suc zero) (suc (suc w)) hb hm hw = absurd (omega arith)
bit-passes (suc zero) zero (suc (suc w)) hb hm hw = absurd (omega arith)
bit-passes (suc zero) (suc zero) (suc (suc w)) hb hm hw = absurd (omega arith)

-- one bit of a test: what is left of it is over the halves
module _ (e j m w : ℕ) where
  half : e / 2 ^ j / 2 ≡ e / 2 ^ suc j
  half = div-div-eq-div-mul e (2 ^ j) 2 ∙ ap (λ (d : ℕ). e / d) (sym (pow-suc 2 j))

  one_bit : eqb (bit_and (e / 2 ^ j) m) w ≡ (passes (m % 2) (w % 2) (bit e j) && eqb (bit_and (e / 2 ^ suc j) (m / 2)) (w / 2))
  one_bit =
      let a = e / 2 ^ j in
      ap (λ (k : ℕ). eqb k w) (and_step a m)
      ∙ halves (bit_and (a / 2) (m / 2)) (min (a % 2) (m % 2)) w (omega (arith, min-le_left (a % 2) (m % 2)))
      ∙ ap (λ (b : Bool). b && eqb (bit_and (a / 2) (m / 2)) (w / 2)) (bit-passes (a % 2) (m % 2) (w % 2) (omega arith) (omega arith) (omega arith))
      ∙ ap (λ (k : ℕ). passes (m % 2) (w % 2) (bit e j) && eqb (bit_and k (m / 2)) (w / 2)) half

-- a test of some low bits, then z
abbrev agree : List Bool → ℕ → ℕ → Bool → Bool
agree [] m w z = z
agree (b ∷ bs) m w z = passes (m % 2) (w % 2) b && agree bs (m / 2) (w / 2) z

abbrev bits-from : ℕ → ℕ → ℕ → List Bool
bits-from e zero j = []
bits-from e (suc n) j = bit e j ∷ bits-from e n (suc j)

-- what is left of a test after n bits
abbrev rest : ℕ → ℕ → ℕ → ℕ → ℕ → Bool
rest e zero j m w = eqb (bit_and (e / 2 ^ j) m) w
rest e (suc n) j m w = rest e n (suc j) (m / 2) (w / 2)

some_bits : (n e j m w : ℕ) → eqb (bit_and (e / 2 ^ j) m) w ≡ agree (bits-from e n j) m w (rest e n j m w)
some_bits zero e j m w = refl
some_bits (suc n) e j m w =
    one_bit e j m w ∙ ap (λ (b : Bool). passes (m % 2) (w % 2) (bit e j) && b) (some_bits n e (suc j) (m / 2) (w / 2))

low_bits : (n e m w : ℕ) → eqb (bit_and e m) w ≡ agree (bits-from e n 0) m w (rest e n 0 m w)
low_bits n e m w = ap (λ (k : ℕ). eqb (bit_and k m) w) (sym (div-one e)) ∙ some_bits n e 0 m w

-- bits 63:54
high_bits : (e : ℕ) → eqb (bit_and (e / 256) 71987225293750272) 0 ≡ eqb (bits e 63 54) 0
high_bits e = go (eqb (bits e 63 54) 0) refl
  where
    is : bit_and (e / 256) 71987225293750272 ≡ bits e 63 54 * 70368744177664
    is = and_high (e / 256) 10 46 ∙ omega arith

    go : (b : Bool) → eqb (bits e 63 54) 0 ≡ b → eqb (bit_and (e / 256) 71987225293750272) 0 ≡ b
    go true h = eq-eqb (bit_and (e / 256) 71987225293750272) 0 (omega (arith, is, eqb-true (bits e 63 54) 0 h))
    go false h = ne_eqb (bit_and (e / 256) 71987225293750272) 0 (λ k. eqb-false (bits e 63 54) 0 h (omega (arith, is)))

-- W without R
unread-write : (e : ℕ) → eqb (bit_and e 6) 4 ≡ (not (bit e 1) && (bit e 2 && true))
unread-write e = low_bits 3 e 6 4 ∙ ap (λ (k : ℕ). not (bit e 1) && (bit e 2 && eqb k 0)) (and_zero_r (e / 8))

-- a leaf that permits an access, by R, W, X and D
abbrev pub permit_of : Access → Bool → Bool → Bool → Bool → Bool
permit_of Read r w x d = r
permit_of Write r w x d = r && w && d
permit_of Execute r w x d = x && (r || not w)

module _ (k : Access) (pages : Pages) (page : ℕ) where
  -- V, no reserved bit, R, W, X, U, bit 5, A, D
  abbrev by_mask : Bool → Bool → Bool → Bool → Bool → Bool → Bool → Bool → Bool → Bool
  by_mask v z r w x u g a d =
      agree (v ∷ r ∷ w ∷ x ∷ u ∷ g ∷ a ∷ d ∷ []) (test_of k pages).mask (test_of k pages).want z && not (not r && (w && true))

  abbrev by_bits : Bool → Bool → Bool → Bool → Bool → Bool → Bool → Bool → Bool
  by_bits v z r w x u a d = v && z && a && owned_by pages (record { r = r; w = w; x = x; u = u; a = a; d = d; page = page }) && permit_of k r w x d

  abbrev rows : Row 9
  rows v z r w x u g a d = same (by_mask v z r w x u g a d) (by_bits v z r w x u a d)

  module _ (e : ℕ) where
    abbrev z : Bool
    z = eqb (bits e 63 54) 0

    by_rows : rest e 8 0 (test_of k pages).mask (test_of k pages).want ≡ eqb (bit_and (e / 256) 71987225293750272) 0 → all 9 rows ≡ true
        → leaf_bits e (test_of k pages) ≡ by_bits (bit e 0) z (bit e 1) (bit e 2) (bit e 3) (bit e 4) (bit e 6) (bit e 7)
    by_rows h t =
        let m = (test_of k pages).mask in
        let w = (test_of k pages).want in
        ap (λ (b : Bool). b && not (eqb (bit_and e 6) 4)) (low_bits 8 e m w ∙ ap (agree (bits-from e 8 0) m w) (h ∙ high_bits e))
        ∙ ap (λ (b : Bool). agree (bits-from e 8 0) m w z && not b) (unread-write e)
        ∙ is_same (by_mask (bit e 0) z (bit e 1) (bit e 2) (bit e 3) (bit e 4) (bit e 5) (bit e 6) (bit e 7))
        (by_bits (bit e 0) z (bit e 1) (bit e 2) (bit e 3) (bit e 4) (bit e 6) (bit e 7))
        (every 9 rows t (bit e 0) z (bit e 1) (bit e 2) (bit e 3) (bit e 4) (bit e 5) (bit e 6) (bit e 7))

-- the masks of each access and kind of pages
pub leaf_bits_lem : (k : Access) (pages : Pages) (e : ℕ) → leaf_bits e (test_of k pages) ≡ by_bits k pages (entry_page e) (bit e 0) (eqb (bits e 63 54) 0) (bit e 1) (bit e 2) (bit e 3) (bit e 4) (bit e 6) (bit e 7)
leaf_bits_lem Read User e = by_rows Read User (entry_page e) e refl refl
leaf_bits_lem Read Supervisor e = by_rows Read Supervisor (entry_page e) e refl refl
leaf_bits_lem Read Any e = by_rows Read Any (entry_page e) e refl refl
leaf_bits_lem Write User e = by_rows Write User (entry_page e) e refl refl
leaf_bits_lem Write Supervisor e = by_rows Write Supervisor (entry_page e) e refl refl
leaf_bits_lem Write Any e = by_rows Write Any (entry_page e) e refl refl
leaf_bits_lem Execute User e = by_rows Execute User (entry_page e) e refl refl
leaf_bits_lem Execute Supervisor e = by_rows Execute Supervisor (entry_page e) e refl refl
leaf_bits_lem Execute Any e = by_rows Execute Any (entry_page e) e refl refl
