-- The facts of a scheme, by the tests that the code makes: each over any scheme. Assumes nothing.
use Prim.Native.Nat.{ℕ, ◌+◌, ◌-◌, ◌*◌, ◌/◌, ◌%◌, ◌^◌, ◌<◌, ◌≤◌}
use mathlib.Core.Bool.{Bool, true, false, ◌&&◌, ◌||◌}
use mathlib.Core.Path.{◌≡◌, refl, sym, ap, ◌∙◌, subst}
use native.Mathlib.Omega.{arith}
use native.Mathlib.Nat.{mod-lt, div-eq_of_lt, div-lt_iff_lt-mul}
use lib.Dec.{eqb, ltb}
use lib.Pow.{pow_mono, pow_pos, pow-add}
use borrow.Author.Tests.{ltb-true, ltb-false, eq-eqb, ne_eqb, lt-ltb}
use Rattle.memory.specs.Choice.{pick}
use Rattle.paging_scheme.specs.declared.Scheme.{Scheme}
use Rattle.paging_scheme.specs.declared.Scheme.TheVariants.{Sv39, Sv48, Sv57, Sv39x4, Sv48x4, Sv57x4}
use Rattle.paging_scheme.specs.Scheme.{levels_of, root_bits_of, address_bits_of, signed_of, sign_extended, legal_of, index_of}
use Rattle.paging_scheme.specs.Code.{free_bits_of}

-- the bit from which a legal address's bits are alike, where there is a sign
pub free_signed : (s : Scheme) (w : ℕ) (g : Bool) → w ≡ address_bits_of s → g ≡ signed_of s → g ≡ true → w - 1 ≡ free_bits_of s
free_signed s w g hw hg t = simp (← hg, t, hw)

-- no bit from k on is set in the first 2 to the power of k numbers
pub none-set : (a k : ℕ) → eqb (a / 2 ^ k) 0 ≡ ltb a (2 ^ k)
none-set a k = go (ltb a (2 ^ k)) refl
  where
    go : (b : Bool) → ltb a (2 ^ k) ≡ b → eqb (a / 2 ^ k) 0 ≡ b
    go true t = eq-eqb (a / 2 ^ k) 0 (div-eq_of_lt (ltb-true a (2 ^ k) t))
    go false t =
        let q : 2 ^ k ≤ a = ltb-false a (2 ^ k) t in
        ne_eqb (a / 2 ^ k) 0 (λ z. omega (arith, (div-lt_iff_lt-mul {x = a} {y = 1} (pow_pos k)).0 (omega arith)))

or_false : (b : Bool) → (b || false) ≡ b
or_false true = refl
or_false false = refl

-- the bits of an address from k on, where a legal address's are alike: by whether there is a sign
module _ (a w k p : ℕ) (h : 0 < k) (e : p ≡ 2 ^ (64 - k)) where
  legal-by : (g : Bool) → k ≡ pick g (w - 1) w → (eqb (a / 2 ^ k) 0 || (g && eqb (a / 2 ^ k) (p - 1))) ≡ pick g (sign_extended w a) (ltb a (2 ^ w))
  legal-by true f =
      let n : 64 - k ≡ 65 - w = omega arith in
      simp (← f, e, n)
  legal-by false f = or_false (eqb (a / 2 ^ k) 0) ∙ none-set a k ∙ ap (λ (i : ℕ). ltb a (2 ^ i)) f

legal-is : (s : Scheme) (a k p : ℕ) (g : Bool) → k ≡ free_bits_of s → 0 < k → g ≡ signed_of s → p ≡ 2 ^ (64 - k) → (eqb (a / 2 ^ k) 0 || (g && eqb (a / 2 ^ k) (p - 1))) ≡ legal_of s a
unfolding legal_of
legal-is s a k p g hk h hg e =
    ap (λ (b : Bool). eqb (a / 2 ^ k) 0 || (b && eqb (a / 2 ^ k) (p - 1))) hg ∙ legal-by a (address_bits_of s) k p h e (signed_of s) hk

pub legal-zero : (s : Scheme) (a k : ℕ) → k ≡ free_bits_of s → 0 < k → a / 2 ^ k ≡ 0 → true ≡ legal_of s a
legal-zero s a k hk h z = sym (ap (λ (b : ℕ). eqb b 0 || (signed_of s && eqb b (2 ^ (64 - k) - 1))) z) ∙ legal-is s a k (2 ^ (64 - k)) (signed_of s) hk h refl refl

pub legal-ones : (s : Scheme) (a k p : ℕ) (g : Bool) → k ≡ free_bits_of s → 0 < k → g ≡ signed_of s → (a / 2 ^ k ≡ 0 → ⊥) → p ≡ 2 ^ (64 - k) → (g && eqb (a / 2 ^ k) (p - 1)) ≡ legal_of s a
legal-ones s a k p g hk h hg z e = ap (λ (b : Bool). b || (g && eqb (a / 2 ^ k) (p - 1))) (sym (ne_eqb (a / 2 ^ k) 0 z)) ∙ legal-is s a k p g hk h hg e

pub ruleset legal_ways = (legal-zero, legal-ones)

-- the index at the root, and below it, by the level's shift
module _ (s : Scheme) (a n shift : ℕ) (h : shift ≡ 12 + 9 * n) where
  pub index-root : (l b p : ℕ) → l ≡ levels_of s → n + 1 ≡ l → b ≡ root_bits_of s → p ≡ 2 ^ b → a / 2 ^ shift % p ≡ index_of s a n
  unfolding index_of
  index-root l b p hl e hb hp = ap (λ (k : ℕ). a / 2 ^ k % p) h ∙ simp (eq-eqb (n + 1) (levels_of s) (e ∙ hl), hp, hb)

  pub index_below : (l : ℕ) → l ≡ levels_of s → (n + 1 ≡ l → ⊥) → a / 2 ^ shift % 512 ≡ index_of s a n
  unfolding index_of
  index_below l hl e = ap (λ (k : ℕ). a / 2 ^ k % 512) h ∙ simp (ne_eqb (n + 1) (levels_of s) (λ z. e (z ∙ sym hl)))

  pub index-lower : n + 1 < levels_of s → a / 2 ^ shift % 512 ≡ index_of s a n
  index-lower l = index_below (levels_of s) refl (λ e. omega (arith, e, l))

pub small_rem : (v b p : ℕ) → b < 12 → p ≡ 2 ^ b → v % p < 2048
small_rem v b p h e =
    let q : 0 < p = omega (arith, pow_pos b) in
    omega (arith, mod-lt v q, pow_mono {i = b} {j = 11} (omega arith))

pub small_rem_512 : (v : ℕ) → v % 512 < 2048
small_rem_512 v = omega arith

pub ruleset index_ways = (index-root, index_below, small_rem, small_rem_512)

pub shift-below : (n shift : ℕ) → n < 5 → shift ≡ 12 + 9 * n → shift < 64
shift-below n shift h e = omega arith

pub ruleset below_ways = (index-lower, shift-below, small_rem_512)

abbrev Yes : Bool → Type 0
Yes true = Unit {0}
Yes false = ⊥

never : true ≡ false → ⊥
never e = subst Yes e tt

-- a guest's scheme: eleven bits at the root, and no sign
guest_facts : (s : Scheme) → signed_of s ≡ false → (root_bits_of s ≡ 11) × (address_bits_of s ≡ 14 + 9 * levels_of s) × (0 < levels_of s)
guest_facts Sv39 h = absurd (never h)
guest_facts Sv48 h = absurd (never h)
guest_facts Sv57 h = absurd (never h)
guest_facts Sv39x4 h = (refl, refl, omega arith)
guest_facts Sv48x4 h = (refl, refl, omega arith)
guest_facts Sv57x4 h = (refl, refl, omega arith)

-- its root's index is all that an address has from the root's shift on: legal where it has eleven bits
module _ (s : Scheme) (a l top : ℕ) (h : signed_of s ≡ false) (hl : l ≡ levels_of s) (ht : top ≡ 3 + 9 * l) where
  guest-legal-is : legal_of s a ≡ ltb a (2 ^ (14 + 9 * l))
  unfolding legal_of
  guest-legal-is = simp (h, (guest_facts s h).1, hl)

  guest-room : 2048 * 2 ^ top ≡ 2 ^ (14 + 9 * l)
  guest-room = sym (pow-add 2 11 top) ∙ ap (λ (k : ℕ). 2 ^ k) (omega arith)

  pub guest-legal : a / 2 ^ top ≤ 2047 → legal_of s a ≡ true
  guest-legal e =
      guest-legal-is ∙ lt-ltb a (2 ^ (14 + 9 * l)) (omega (arith, guest-room, (div-lt_iff_lt-mul {x = a} {y = 2048} (pow_pos top)).0 (omega arith)))

  pub guest_illegal : 2047 < a / 2 ^ top → legal_of s a ≡ false
  guest_illegal e = guest-legal-is ∙ go (ltb a (2 ^ (14 + 9 * l))) refl
    where
      go : (b : Bool) → ltb a (2 ^ (14 + 9 * l)) ≡ b → b ≡ false
      go true t =
          let low : a < 2048 * 2 ^ top = omega (arith, guest-room, ltb-true a (2 ^ (14 + 9 * l)) t) in
          absurd (omega (arith, e, (div-lt_iff_lt-mul {x = a} {y = 2048} (pow_pos top)).1 low))
      go false t = refl

  pub guest-root-index : a / 2 ^ top ≤ 2047 → a / 2 ^ top ≡ index_of s a (levels_of s - 1)
  guest-root-index e =
      let p : 0 < levels_of s = (guest_facts s h).2 in
      let n : 12 + 9 * (levels_of s - 1) ≡ top = omega (arith, hl, ht, p) in
      let m : a / 2 ^ top % 2048 ≡ a / 2 ^ top = omega arith in
      sym m ∙ index-root s a (levels_of s - 1) top (sym n) (levels_of s) 11 2048 refl (omega (arith, p)) (sym (guest_facts s h).0) refl

pub root-top : (s : Scheme) (top l : ℕ) → top ≡ 3 + 9 * l → l ≡ levels_of s → 0 < l → top ≡ 12 + 9 * (levels_of s - 1)
root-top s top l h e p = h ∙ omega (arith, e, p)

pub ruleset guest_ways = (root-top, guest-legal, guest_illegal, guest-root-index)
