-- What a refusal, or none, says of what is asked for, and its number. Assumes nothing.
use Rattle.std.specs.Prelude.{ℕ, ltb, Bool, true, false, ◌≡◌, Result, Ok, Err}
use mathlib.Core.Path.{refl, ◌∙◌}
use Rattle.memory.specs.Choice.{pick}
use Rattle.refusal.specs.declared.Refusal.{Refusal}
use Rattle.refusal.specs.Refusal.{number_of}
use Rattle.hart.specs.Hart.{in_domain, hart_refusal}

module _ {A : Type 0} (has : Bool) (a : A) (r : Result A Refusal) where
  pub has-it : (x : A) → r ≡ in_domain has a → r ≡ Ok x → has ≡ true
  has-it x p q = go has p
    where
      go : (b : Bool) → r ≡ in_domain b a → b ≡ true
      go true h = refl
      go false h = cc

  pub has-not : (e : Refusal) → r ≡ in_domain has a → r ≡ Err e → has ≡ false
  has-not e p q = go has p
    where
      go : (b : Bool) → r ≡ in_domain b a → b ≡ false
      go true h = cc
      go false h = refl

  pub refusal-number : (e : Refusal) → r ≡ in_domain has a → r ≡ Err e → number_of e ≡ pick has 0 2014
  refusal-number e p q = go has p
    where
      go : (b : Bool) → r ≡ in_domain b a → number_of e ≡ pick b 0 2014
      go true h = cc
      go false h = cc

  pub no-refusal : (x : A) → r ≡ in_domain has a → r ≡ Ok x → ◌≡◌ {A = ℕ} 0 (pick has 0 2014)
  no-refusal x p q = go has p
    where
      go : (b : Bool) → r ≡ in_domain b a → ◌≡◌ {A = ℕ} 0 (pick b 0 2014)
      go true h = refl
      go false h = cc

-- the same of another answer
module _ {A B : Type 0} (has : Bool) (a : A) (b : B) (r : Result A Refusal) where
  pub ok-told : (u : A) (x : B) → r ≡ in_domain has a → r ≡ Ok u → x ≡ b → Ok x ≡ in_domain has b
  ok-told u x p q e = rw (has-it has a r u p q, e)

  pub err-told : (e : Refusal) → r ≡ in_domain has a → r ≡ Err e → Err e ≡ in_domain has b
  err-told e p q = go has p
    where
      go : (t : Bool) → r ≡ in_domain t a → Err e ≡ in_domain t b
      go true h = cc
      go false h = cc

-- a hart's
module _ (h : ℕ) (r : Result Unit Refusal) where
  pub hart_none : (u : Unit) → r ≡ in_domain (ltb h 16) tt → r ≡ Ok u → ◌≡◌ {A = ℕ} 0 (hart_refusal h)
  unfolding hart_refusal
  hart_none u p q = no-refusal (ltb h 16) tt r u p q

  pub hart_number : (e : Refusal) (x : ℕ) → r ≡ in_domain (ltb h 16) tt → r ≡ Err e → x ≡ number_of e → x ≡ hart_refusal h
  unfolding hart_refusal
  hart_number e x p q k = k ∙ refusal-number (ltb h 16) tt r e p q
