-- Which addresses are legal, as ranges of numbers, for any scheme whose addresses fit 64 bits. Assumes nothing.
use Prim.Native.Nat.{ℕ, suc, ◌+◌, ◌-◌, ◌*◌, ◌/◌, ◌^◌, ◌<◌, ◌≤◌}
use mathlib.Core.Bool.{Bool, true, false, ◌||◌}
use mathlib.Core.Path.{◌≡◌, refl, sym, ap, ◌∙◌, subst}
use native.Mathlib.Omega.{arith}
use native.Mathlib.Nat.{suc-mul, div-mul-le_self, div-eq_of_lt-le}
use lib.Dec.{eqb, ltb, leb}
use lib.Pow.{pow-add, pow_pos}
use borrow.Author.Tests.{leb-true, leb-false, eq-eqb, ne_eqb}
use Rattle.memory.specs.Choice.{pick}
use Rattle.paging_scheme.specs.declared.Scheme.{Scheme}
use Rattle.paging_scheme.specs.Scheme.{address_bits_of, signed_of, sign_extended, legal_of}
use Rattle.paging_scheme.proofs.CodeLaws.{none-set}

-- all bits from k on are set in the last 2 to the power of k numbers of 64 bits
module _ (a k : ℕ) (h : k ≤ 64) (l : a < 2 ^ 64) where
  abbrev ones : ℕ
  ones = 2 ^ (64 - k) - 1

  edge : ones * 2 ^ k + 2 ^ k ≡ 2 ^ 64
  edge =
      let e : suc ones ≡ 2 ^ (64 - k) = omega (arith, pow_pos (64 - k)) in
      let n : 64 - k + k ≡ 64 = omega arith in
      sym (suc-mul ones (2 ^ k)) ∙ ap (λ (i : ℕ). i * 2 ^ k) e ∙ sym (pow-add 2 (64 - k) k) ∙ ap (λ (i : ℕ). 2 ^ i) n

  pub all_set : eqb (a / 2 ^ k) ones ≡ leb (2 ^ 64 - 2 ^ k) a
  all_set = go (leb (2 ^ 64 - 2 ^ k) a) refl
    where
      go : (b : Bool) → leb (2 ^ 64 - 2 ^ k) a ≡ b → eqb (a / 2 ^ k) ones ≡ b
      go true t =
          let low : ones * 2 ^ k ≤ a = omega (arith, edge, leb-true (2 ^ 64 - 2 ^ k) a t) in
          let next : suc ones ≡ ones + 1 = omega arith in
          let high : a < (ones + 1) * 2 ^ k = subst (λ (i : ℕ). a < i) (sym edge ∙ sym (suc-mul ones (2 ^ k)) ∙ ap (λ (i : ℕ). i * 2 ^ k) next) l in
          eq-eqb (a / 2 ^ k) ones (div-eq_of_lt-le (2 ^ k) low high)
      go false t =
          ne_eqb (a / 2 ^ k) ones
          (λ z. omega (arith, edge, leb-false (2 ^ 64 - 2 ^ k) a t, subst (λ (i : ℕ). i * 2 ^ k ≤ a) z (div-mul-le_self a (2 ^ k))))

pub legal_range : (s : Scheme) (a : ℕ) → 0 < address_bits_of s → address_bits_of s ≤ 64 → a < 2 ^ 64
    → legal_of s a
    ≡ pick (signed_of s) (ltb a (2 ^ (address_bits_of s - 1)) || leb (2 ^ 64 - 2 ^ (address_bits_of s - 1)) a) (ltb a (2 ^ address_bits_of s))
unfolding legal_of
legal_range s a p h l = go (signed_of s)
  where
    go : (g : Bool) → pick g (sign_extended (address_bits_of s) a) (ltb a (2 ^ address_bits_of s)) ≡ pick g (ltb a (2 ^ (address_bits_of s - 1)) || leb (2 ^ 64 - 2 ^ (address_bits_of s - 1)) a) (ltb a (2 ^ address_bits_of s))
    go true =
        let w = address_bits_of s in
        let n : 65 - w ≡ 64 - (w - 1) = omega arith in
        ap (λ (b : Bool). b || eqb (a / 2 ^ (w - 1)) (2 ^ (65 - w) - 1)) (none-set a (w - 1))
        ∙ ap (λ (i : ℕ). ltb a (2 ^ (w - 1)) || eqb (a / 2 ^ (w - 1)) (2 ^ i - 1)) n
        ∙ ap (λ (b : Bool). ltb a (2 ^ (w - 1)) || b) (all_set a (w - 1) (omega arith) l)
    go false = refl
