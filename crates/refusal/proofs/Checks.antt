-- What follows a list of checks, by what they give. Assumes nothing.
use mathlib.Core.Path.{◌≡◌, sym, ap, ◌∙◌}
use Rattle.std.specs.Prelude.{Result, Ok, Err}
use Rattle.refusal.specs.declared.Refusal.{Refusal}
use Rattle.refusal.specs.Checks.{unless_refused}

module _ {A : Type 0} (n : Result (Unit {0}) Refusal) (f : Refusal → A) (a x : A) where
  pub passed : (u : Unit {0}) → n ≡ Ok u → x ≡ a → x ≡ unless_refused n f a
  passed u z e = e ∙ sym (ap (λ (k : Result (Unit {0}) Refusal). unless_refused k f a) z)

  pub stopped : (r : Refusal) → n ≡ Err r → x ≡ f r → x ≡ unless_refused n f a
  stopped r z e = e ∙ sym (ap (λ (k : Result (Unit {0}) Refusal). unless_refused k f a) z)
