-- How a proof goes through a choice: by the test's value, or by a flag that has it. Assumes nothing.
use Rattle.std.proofs.Common.{◌≡◌, ℕ, ◌<◌, ◌≤◌, Bool, true, false, eqb, ltb, sym, refl, ◌∙◌, subst, ltb-false, ltb-true, le-ltb, lt-ltb, eq-eqb, ne_eqb, eqb-true, le-leb}
use borrow.Author.Tests.{eqb-false, lt-leb}
use Rattle.memory.specs.Choice.{pick}

pub pick_same : {A : Type 0} (b : Bool) (x : A) → pick b x x ≡ x
pick_same true x = refl
pick_same false x = refl

-- by the test's own value
pub yes-is : {A : Type 0} (b : Bool) (x y z : A) → b ≡ true → x ≡ y → x ≡ pick b y z
yes-is b x y z e p = subst (λ (t : Bool). x ≡ pick t y z) (sym e) p

pub no-is : {A : Type 0} (b : Bool) (x y z : A) → b ≡ false → x ≡ z → x ≡ pick b y z
no-is b x y z e p = subst (λ (t : Bool). x ≡ pick t y z) (sym e) p

-- by a flag r that a call returned
pub yes-by : {A : Type 0} (b r : Bool) (x y z : A) → r ≡ b → r ≡ true → x ≡ y → x ≡ pick b y z
yes-by b r x y z e t p = yes-is b x y z (sym e ∙ t) p

pub no-by : {A : Type 0} (b r : Bool) (x y z : A) → r ≡ b → r ≡ false → x ≡ z → x ≡ pick b y z
no-by b r x y z e t p = no-is b x y z (sym e ∙ t) p

pub ruleset picks = (yes-is, no-is, eq-eqb, ne_eqb, lt-ltb, le-ltb, le-leb, lt-leb)

pub ruleset flags = (yes-by, no-by)

-- two tests are one where each fact gives the other
pub eqb_same : (a b c d : ℕ) → (a ≡ b → c ≡ d) → (c ≡ d → a ≡ b) → eqb a b ≡ eqb c d
eqb_same a b c d f g = go (eqb a b) refl
  where
    go : (t : Bool) → eqb a b ≡ t → t ≡ eqb c d
    go true e = sym (eq-eqb c d (f (eqb-true a b e)))
    go false e = sym (ne_eqb c d (λ p. eqb-false a b e (g p)))

pub ltb-same : (a b c d : ℕ) → (a < b → c < d) → (b ≤ a → d ≤ c) → ltb a b ≡ ltb c d
ltb-same a b c d f g = go (ltb a b) refl
  where
    go : (t : Bool) → ltb a b ≡ t → t ≡ ltb c d
    go true e = sym (lt-ltb c d (f (ltb-true a b e)))
    go false e = sym (le-ltb c d (g (ltb-false a b e)))
