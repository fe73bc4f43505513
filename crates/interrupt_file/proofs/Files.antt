-- A file's place in the window, and one bit of it changed by way of its doubleword. Assumes nothing.
use Prim.Native.Nat.{ℕ, ◌+◌, ◌-◌, ◌*◌, ◌/◌, ◌%◌, ◌≤◌, ◌<◌}
use mathlib.Core.Bool.{Bool, true, false}
use mathlib.Core.List.{List}
use mathlib.Core.Path.{◌≡◌, refl, sym, ap, ◌∙◌}
use native.Mathlib.Omega.{arith}
use borrow.Author.Tests.{eqb-true, leb-true, eq-eqb, ne_eqb, le-leb}
use borrow.Rule.Slice.PartMut.{mid_of, put_mid, set_mid_at}
use lib.ListN.{length, get_or, set, length-take, length-drop}
use lib.Seq.{get_or-drop, get_or-take}
use Rattle.memory.specs.Window.{inside}
use Rattle.memory.proofs.Truth.{and_true}
use Rattle.memory.proofs.Pages.{whole}
use Rattle.interrupt_file.specs.Bit.{with_bit}
use Rattle.interrupt_file.specs.File.{is_file, place_of, after_store}

-- what `is_file` says
pub record FileAt (start len file : ℕ) : Type 0 where
  pub aligned : file % 512 ≡ 0
  pub after : start ≤ file
  pub within : file + 512 ≤ start + len

-- a test that can't hold is false
not_so : (b : Bool) → (b ≡ true → ⊥) → false ≡ b
not_so true h = absurd (h refl)
not_so false h = refl

module _ {start len file : ℕ} where
  pub file-at : is_file start len file ≡ true → FileAt start len file
  unfolding is_file
  file-at e =
      let p = and_true _ _ e in
      let q = and_true _ _ p.1 in
      record { aligned = eqb-true _ _ p.0; after = leb-true _ _ q.0; within = leb-true _ _ q.1 }

  pub is_file_lem : FileAt start len file → true ≡ is_file start len file
  unfolding is_file
  is_file_lem f = simp (eq-eqb _ _ f.aligned, le-leb _ _ f.after, le-leb _ _ f.within)

  pub no-file : (FileAt start len file → ⊥) → false ≡ is_file start len file
  no-file h = not_so _ (λ e. h (file-at e))

-- the tests of the code
pub off-place : (start len file : ℕ) → (file % 512 ≡ 0 → ⊥) → false ≡ is_file start len file
unfolding is_file
off-place start len file h = simp (ne_eqb (file % 512) 0 h)

pub in_place : (start len file : ℕ) (b : Bool) → start % 4096 ≡ 0 → len % 4096 ≡ 0 → file % 512 ≡ 0 → b ≡ inside start len file 1 → b ≡ is_file start len file
unfolding is_file
in_place start len file b hs hl h e =
    let f : file ≡ 512 * (file / 512) = omega arith in
    let g : file ≡ 512 * (file / 512) + 0 = omega arith in
    simp (eq-eqb (file % 512) 0 h)
    (e ∙ ap (λ (k : ℕ). inside start len k 1) g ∙ whole 512 8 refl start len (file / 512) 0 1 hs hl (omega arith) (omega arith) ∙ ap (λ (k : ℕ). inside start len k 512) (sym f))

pub ruleset file_at_ways = (file-at)

pub ruleset file_ways = (off-place, in_place)

-- a part of a slice, lent and back with one element changed, is the slice with that element changed
mid_set : (a n j : ℕ) (f : ℕ → ℕ) (xs ys : List ℕ) → j < n → a + n ≤ length xs
    → ys ≡ set (mid_of a n xs) j (f (get_or (mid_of a n xs) j 0)) → put_mid a n xs ys ≡ set xs (a + j) (f (get_or xs (a + j) 0))
mid_set a n j f xs ys lj la e =
    let lm : j < length (mid_of a n xs) = simp (length-take, length-drop) (omega arith) in
    rw (e, set_mid_at a n j xs _ lm, get_or-take, get_or-drop)

-- the eight bytes at an index as they are lent, and the window when they are back
abbrev pub lent : ℕ → List ℕ → List ℕ
lent at xs = mid_of at (at + 8 - at) xs

abbrev pub back : ℕ → List ℕ → List ℕ → List ℕ
back at xs ys = put_mid at (at + 8 - at) xs ys

-- the doubleword at an index is that of an identity
module _ (start : ℕ) (xs : List ℕ) (file n at : ℕ) (h : start + at ≡ file + 16 * (n / 64)) (w : at + 8 ≤ length xs) where
  byte-is : at + n % 64 / 8 ≡ place_of file n - start
  byte-is = omega arith

  bit_is : n % 64 % 8 ≡ n % 8
  bit_is = omega arith

  pub stored : (ys : List ℕ) → ys ≡ set (lent at xs) (n % 64 / 8) (with_bit (n % 64 % 8) (get_or (lent at xs) (n % 64 / 8) 0))
      → back at xs ys ≡ after_store start xs file n
  unfolding after_store
  stored ys q =
      mid_set at (at + 8 - at) (n % 64 / 8) (with_bit (n % 64 % 8)) xs ys (omega arith) (omega arith) q
      ∙ ap (λ i. set xs i (with_bit (n % 64 % 8) (get_or xs i 0))) byte-is
      ∙ ap (λ k. set xs (place_of file n - start) (with_bit k (get_or xs (place_of file n - start) 0))) bit_is
