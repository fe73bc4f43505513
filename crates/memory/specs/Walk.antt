-- A walk: loads, each at an address that earlier ones decide, and a result. Every table that a request reads is read so.
use Rattle.std.specs.Prelude.{ℕ, List, [], ◌∷◌}
use Rattle.memory.specs.Load.{Load}
use Rattle.std.specs.Prelude.{Some, None}

pub data Walk (A : Type 0) : Type 0 where
  done : A → Walk A
  load : ℕ → (Load → Walk A) → Walk A

-- one walk, and then another that its result decides
abbrev pub bind : {A B : Type 0} → Walk A → (A → Walk B) → Walk B
bind (done a) f = f a
bind (load p k) f = load p (λ v. bind (k v) f)

-- the walk's result in a memory
abbrev pub run : {A : Type 0} → (ℕ → Load) → Walk A → A
run m (done a) = a
run m (load p k) = run m (k (m p))

-- the addresses of the doublewords that it reads there, in order
abbrev pub trace : {A : Type 0} → (ℕ → Load) → Walk A → List ℕ
trace m (done a) = []
trace m (load p k) = p ∷ trace m (k (m p))

-- what follows a load: `fault` where it is a violation
abbrev pub on_value : {A : Type 0} → Walk A → (ℕ → Walk A) → Load → Walk A
on_value fault k (Some v) = k v
on_value fault k None = fault

-- the doubleword at an address handed on, or `fault` where it can't be read
abbrev pub load_or : {A : Type 0} → Walk A → ℕ → (ℕ → Walk A) → Walk A
load_or fault a k = load a (on_value fault k)
