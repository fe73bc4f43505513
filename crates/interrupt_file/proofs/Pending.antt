-- The pending bits of a window before and after a store and a take, for every file and identity. Assumes nothing.
use Prim.Native.Nat.{ℕ, zero, suc, ◌+◌, ◌-◌, ◌*◌, ◌/◌, ◌%◌, ◌≤◌, ◌<◌}
use mathlib.Core.Bool.{Bool, true, false}
use mathlib.Core.List.{List, [], ◌∷◌}
use mathlib.Core.Path.{◌≡◌, refl, sym, ap, ◌∙◌}
use native.Mathlib.Omega.{arith}
use native.Mathlib.Decide.{ℕ_discrete}
use borrow.Author.Tests.{eqb-true, eqb-false}
use lib.Dec.{eqb}
use lib.ListN.{length, get_or, set, length-set}
use lib.Seq.{get_or-set_same, get_or-set_other}
use Rattle.interrupt_file.specs.Bit.{bit_at, with_bit, without_bit}
use Rattle.interrupt_file.specs.File.{is_file, byte_of, place_of, pending_of, after_store, after_take}
use Rattle.interrupt_file.proofs.Bits.{bit-set, bit-set-other, bit-cleared, bit-cleared-other, bit_lt, low-kept}
use Rattle.interrupt_file.proofs.Files.{file-at}

-- an identity's byte lies among the file's 512
pub byte_lt : (n : ℕ) → n < 2048 → byte_of n < 512
byte_lt n l = omega arith

-- the byte and its bit tell the identity
parts : (n : ℕ) → n ≡ 64 * (n / 64) + 8 * (n % 64 / 8) + n % 8
parts n = omega arith

digit_lt : (n : ℕ) → n % 64 / 8 < 8
digit_lt n = omega arith

digits_same : (a b x y : ℕ) → x < 8 → y < 8 → 16 * a + x ≡ 16 * b + y → (a ≡ b) × (x ≡ y)
digits_same a b x y p q h = (omega arith, omega arith)

same-identity : (m n : ℕ) → byte_of m ≡ byte_of n → m % 8 ≡ n % 8 → m ≡ n
same-identity m n h k =
    let d = digits_same (m / 64) (n / 64) (m % 64 / 8) (n % 64 / 8) (digit_lt m) (digit_lt n) h in
    parts m ∙ rw (d.0, d.1, k) (sym (parts n))

same-file : (start f g a b : ℕ) → start ≤ f → start ≤ g → f + a - start ≡ g + b - start → f % 512 ≡ 0 → g % 512 ≡ 0 → a < 512 → b < 512
    → (f ≡ g) × (a ≡ b)
same-file start f g a b u v h p q r s =
    let e : f + a ≡ g + b = omega arith in
    let d : f ≡ g = aligned f g a b e p q r s in
    (d, omega arith)
  where
    aligned : (f g a b : ℕ) → f + a ≡ g + b → f % 512 ≡ 0 → g % 512 ≡ 0 → a < 512 → b < 512 → f ≡ g
    aligned f g a b h p q r s = omega arith

-- different pairs of file and identity have different bits of the window
pub one_bit : (start len f g m n : ℕ) → is_file start len f ≡ true → is_file start len g ≡ true → m < 2048 → n < 2048
    → place_of f m - start ≡ place_of g n - start → m % 8 ≡ n % 8 → (f ≡ g) × (m ≡ n)
one_bit start len f g m n hf hg lm ln p q =
    let F = file-at hf in
    let G = file-at hg in
    let e = same-file start f g (byte_of m) (byte_of n) F.after G.after p F.aligned G.aligned (byte_lt m lm) (byte_lt n ln) in
    (e.0, same-identity m n e.1 q)

set_own : (xs : List ℕ) (k i : ℕ) → get_or (set xs k (get_or xs k 0)) i 0 ≡ get_or xs i 0
set_own [] k i = refl
set_own (x ∷ xs) zero zero = refl
set_own (x ∷ xs) zero (suc i) = refl
set_own (x ∷ xs) (suc k) zero = refl
set_own (x ∷ xs) (suc k) (suc i) = set_own xs k i

module _ (start : ℕ) (xs : List ℕ) (file n : ℕ) where
  pub length-after_store : length (after_store start xs file n) ≡ length xs
  unfolding after_store
  length-after_store = length-set xs _ _

  pub length-after_take : length (after_take start xs file n) ≡ length xs
  unfolding after_take
  length-after_take = length-set xs _ _

  pub pending_lt : pending_of start xs file n < 2
  unfolding pending_of
  pending_lt = bit_lt _ _

  -- a take changes no byte but that of a bit that was 1
  pub take-kept : (i : ℕ) → (i ≡ place_of file n - start → pending_of start xs file n ≡ 1 → ⊥) → get_or (after_take start xs file n) i 0 ≡ get_or xs i 0
  unfolding after_take pending_of
  take-kept i h = go (ℕ_discrete i (place_of file n - start))
    where
      zero-there : i ≡ place_of file n - start → bit_at (n % 8) (get_or xs (place_of file n - start) 0) ≡ 0
      zero-there e = omega (arith, bit_lt (n % 8) (get_or xs (place_of file n - start) 0), h e)

      go : Dec (i ≡ place_of file n - start) → get_or (set xs (place_of file n - start) (without_bit (n % 8) (get_or xs (place_of file n - start) 0))) i 0 ≡ get_or xs i 0
      go (no d) = get_or-set_other xs _ i _ 0 d
      go (yes e) =
          ap (λ (v : ℕ). get_or (set xs (place_of file n - start) v) i 0) (low-kept (n % 8) (get_or xs (place_of file n - start) 0) (zero-there e))
          ∙ set_own xs (place_of file n - start) i

  module _ (hf : is_file start (length xs) file ≡ true) (ln : n < 2048) where
    in_window : place_of file n - start < length xs
    in_window = let f = file-at hf in omega (arith, byte_lt n ln)

    -- a store sets its own bit, and a take clears it
    pub pending-stored : pending_of start (after_store start xs file n) file n ≡ 1
    unfolding pending_of after_store
    pending-stored = rw (get_or-set_same {A = ℕ} xs _ _ 0 in_window) (bit-set (n % 8) _)

    pub pending-taken : pending_of start (after_take start xs file n) file n ≡ 0
    unfolding pending_of after_take
    pending-taken = rw (get_or-set_same {A = ℕ} xs _ _ 0 in_window) (bit-cleared (n % 8) _)

    -- every other bit is as it was
    module _ (g m : ℕ) (hg : is_file start (length xs) g ≡ true) (lm : m < 2048) (other : g ≡ file → m ≡ n → ⊥) where
      -- a byte changed by f keeps each bit but one
      kept : (f : ℕ → ℕ → ℕ) → ((j k v : ℕ) → (j ≡ k → ⊥) → bit_at j (f k v) ≡ bit_at j v)
          → bit_at (m % 8) (get_or (set xs (place_of file n - start) (f (n % 8) (get_or xs (place_of file n - start) 0))) (place_of g m - start) 0)
          ≡ bit_at (m % 8) (get_or xs (place_of g m - start) 0)
      kept f h = go (eqb (place_of g m - start) (place_of file n - start)) refl
        where
          go : (b : Bool) → eqb (place_of g m - start) (place_of file n - start) ≡ b
              → bit_at (m % 8) (get_or (set xs (place_of file n - start) (f (n % 8) (get_or xs (place_of file n - start) 0))) (place_of g m - start) 0)
              ≡ bit_at (m % 8) (get_or xs (place_of g m - start) 0)
          go true e =
              let p = eqb-true _ _ e in
              let d : m % 8 ≡ n % 8 → ⊥ = λ q. let o = one_bit start (length xs) g file m n hg hf lm ln p q in other o.0 o.1 in
              rw (p, get_or-set_same {A = ℕ} xs _ _ 0 in_window) (h (m % 8) (n % 8) _ d)
          go false e = ap (bit_at (m % 8)) (get_or-set_other xs _ _ _ 0 (eqb-false _ _ e))

      pub pending-store-other : pending_of start (after_store start xs file n) g m ≡ pending_of start xs g m
      unfolding pending_of after_store
      pending-store-other = kept with_bit bit-set-other

      pub pending-take-other : pending_of start (after_take start xs file n) g m ≡ pending_of start xs g m
      unfolding pending_of after_take
      pending-take-other = kept without_bit bit-cleared-other

      -- so a routine that sets another bit too, let alone every bit, doesn't keep the promise of a store
      pub sets-no-other : (ys : List ℕ) → ys ≡ after_store start xs file n → pending_of start ys g m ≡ 1 → pending_of start xs g m ≡ 1
      sets-no-other ys e p = sym pending-store-other ∙ ap (λ (zs : List ℕ). pending_of start zs g m) (sym e) ∙ p
