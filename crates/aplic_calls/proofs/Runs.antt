-- THE RUN CLAIM: calls one after the other, on whatever stands for a table, answer as the table of separate sources does. Assumes nothing.
use mathlib.Core.List.{List, ◌∷◌}
use mathlib.Core.Path.{◌≡◌, refl, ap, ap₂, ◌∙◌}
use Rattle.source.specs.declared.Delivery.{Delivery}
use Rattle.source.specs.Table.{Table, start_of}
use Rattle.aplic_calls.specs.declared.Call.{Call}
use Rattle.aplic_calls.specs.Run.{Answer, answers, after_all, Ran, end, next}

module _ {S : Type 0} {table : S → Table} where
  follows : {s z : S} {cs : List Call} {xs : List Answer} → Ran table s cs xs z → (xs ≡ answers (table s) cs) × (table z ≡ after_all (table s) cs)
  follows end = (refl, refl)
  follows {cs = c ∷ cs} (next a e r) =
      let f = follows r in
      (ap₂ (λ x ys. x ∷ ys) a (f.0 ∙ ap (λ (t : Table). answers t cs) e), f.1 ∙ ap (λ (t : Table). after_all t cs) e)

  -- from the start of a delivery mode: the answers, and the table at the end
  pub run-claim : (d : Delivery) {s z : S} {cs : List Call} {xs : List Answer} → table s ≡ start_of d → Ran table s cs xs z → (xs ≡ answers (start_of d) cs) × (table z ≡ after_all (start_of d) cs)
  run-claim d {cs = cs} e r = let f = follows r in (f.0 ∙ ap (λ (t : Table). answers t cs) e, f.1 ∙ ap (λ (t : Table). after_all t cs) e)
