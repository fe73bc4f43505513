-- The number that is told of a wire. Assumes nothing.
use Rattle.std.specs.Prelude.{ℕ, ◌≡◌, Result, Ok, Err}
use mathlib.Core.Path.{◌∙◌}
use Rattle.word.specs.Word.{is_source}
use Rattle.refusal.specs.declared.Refusal.{Refusal}
use Rattle.refusal.specs.Refusal.{number_of}
use Rattle.hart.specs.Hart.{in_domain}
use Rattle.hart.proofs.Refusals.{no-refusal, refusal-number}
use Rattle.aplic_calls.specs.Calls.{wire_refusal}

module _ (n : ℕ) (r : Result Unit Refusal) where
  pub wire_none : (u : Unit) → r ≡ in_domain (is_source n) tt → r ≡ Ok u → ◌≡◌ {A = ℕ} 0 (wire_refusal n)
  unfolding wire_refusal
  wire_none u p q = no-refusal (is_source n) tt r u p q

  pub wire_number : (e : Refusal) (x : ℕ) → r ≡ in_domain (is_source n) tt → r ≡ Err e → x ≡ number_of e → x ≡ wire_refusal n
  unfolding wire_refusal
  wire_number e x p q k = k ∙ refusal-number (is_source n) tt r e p q
