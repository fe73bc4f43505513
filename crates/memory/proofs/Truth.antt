-- A truth table: what holds at every row, by computing, holds. Assumes nothing.
use Rattle.std.proofs.Common.{◌≡◌, ℕ, zero, suc, Bool, true, false, not, ◌&&◌, sym, refl, arith}

-- a test of n flags
abbrev pub Row : ℕ → Type 0
Row zero = Bool
Row (suc n) = Bool → Row n

abbrev pub all : (n : ℕ) → Row n → Bool
all zero f = f
all (suc n) f = all n (f true) && all n (f false)

abbrev pub Holds : (n : ℕ) → Row n → Type 0
Holds zero f = f ≡ true
Holds (suc n) f = (b : Bool) → Holds n (f b)

-- two constructors are not one
pub no_way : ◌≡◌ {A = ℕ} 0 1 → ⊥
no_way e = omega arith

pub true-false : true ≡ false → ⊥
true-false e = no_way cc

-- a conjunction with a known part
pub and_on : (b : Bool) → (b && true) ≡ b
and_on true = refl
and_on false = refl

pub and_off : (b : Bool) → (b && false) ≡ false
and_off true = refl
and_off false = refl

-- both parts of a conjunction
pub and_true : (a b : Bool) → (a && b) ≡ true → (a ≡ true) × (b ≡ true)
and_true true b e = (refl, e)
and_true false b e = (e, cc)

at_both : (f : Bool → Bool) → (f true && f false) ≡ true → (b : Bool) → f b ≡ true
at_both f e true = (and_true (f true) (f false) e).0
at_both f e false = (and_true (f true) (f false) e).1

pub every : (n : ℕ) (f : Row n) → all n f ≡ true → Holds n f
every zero f e = e
every (suc n) f e = λ b. every n (f b) (at_both (λ c. all n (f c)) e b)

abbrev pub same : Bool → Bool → Bool
same true b = b
same false b = not b

pub is_same : (a b : Bool) → same a b ≡ true → a ≡ b
is_same true true e = refl
is_same true false e = sym e
is_same false true e = e
is_same false false e = refl
