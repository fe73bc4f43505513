-- A list of checks, and what its first check that fails gives.
use Rattle.std.specs.Prelude.{Bool, List, [], ◌∷◌, Result, Ok, Err}
use Rattle.memory.specs.Choice.{pick}
use Rattle.refusal.specs.declared.Refusal.{Refusal}

-- a check: it fails where `bad` holds, and then refuses
pub record Check : Type 0 where
  pub refusal : Refusal
  pub bad : Bool

abbrev pub check : Refusal → Bool → Check
check r b = record { refusal = r; bad = b }

-- the refusal of the first check that fails, in the list's order; Ok where none does
abbrev pub first_bad : List Check → Result (Unit {0}) Refusal
first_bad [] = Ok tt
first_bad (c ∷ cs) = pick c.bad (Err c.refusal) (first_bad cs)

-- what follows the checks, or what a refusal gives
abbrev pub unless_refused : {A : Type 0} → Result (Unit {0}) Refusal → (Refusal → A) → A → A
unless_refused (Ok u) refused a = a
unless_refused (Err r) refused a = refused r
