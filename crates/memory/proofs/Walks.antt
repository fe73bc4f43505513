-- Laws of walks, each once for every walk. Assumes nothing.
use Rattle.std.proofs.Common.{◌≡◌, ℕ, Bool, true, false, List, [], ◌∷◌, ◌++◌, sym, refl, ap, ◌∙◌}
use Rattle.memory.specs.Choice.{pick}
use Rattle.memory.specs.Load.{Load}
use Rattle.std.specs.Prelude.{Some, None}
use Rattle.memory.specs.Walk.{Walk, done, load, bind, run, trace, on_value, load_or}

-- a composed walk's result, and the addresses that it reads
pub run_bind : {A B : Type 0} (m : ℕ → Load) (w : Walk A) (f : A → Walk B) → run m (bind w f) ≡ run m (f (run m w))
run_bind m (done a) f = refl
run_bind m (load p k) f = run_bind m (k (m p)) f

pub trace-bind : {A B : Type 0} (m : ℕ → Load) (w : Walk A) (f : A → Walk B) → trace m (bind w f) ≡ trace m w ++ trace m (f (run m w))
trace-bind m (done a) f = refl
trace-bind m (load p k) f = ap (λ t. p ∷ t) (trace-bind m (k (m p)) f)

-- a memory has a doubleword at an address
abbrev pub Read : (ℕ → Load) → ℕ → Type 0
Read m a = (v : ℕ) × (m a ≡ Some v)

-- what holds of a walk's result, by its steps
module _ {A : Type 0} (m : ℕ → Load) (P : A → Type 0) where
  pub run-pick : (b : Bool) (v w : Walk A) → P (run m v) → P (run m w) → P (run m (pick b v w))
  run-pick true v w h k = h
  run-pick false v w h k = k

  pub run-load : (fault : Walk A) (a : ℕ) (next : ℕ → Walk A) → P (run m fault) → ((v : ℕ) → m a ≡ Some v → P (run m (next v))) → P (run m (load_or fault a next))
  run-load fault a next h k = go (m a) refl
    where
      go : (u : Load) → m a ≡ u → P (run m (on_value fault next u))
      go (Some v) e = k v e
      go None e = h

-- two memories have the same doubleword at each address of a list
pub data Agree (m n : ℕ → Load) : List ℕ → Type 0 where
  nil : Agree m n []
  cons : {p : ℕ} {ps : List ℕ} → m p ≡ n p → Agree m n ps → Agree m n (p ∷ ps)

-- where they agree on all that a walk reads in the first, it has the same result in both, and reads the same in both
pub run_agree : {A : Type 0} (m n : ℕ → Load) (w : Walk A) → Agree m n (trace m w) → run m w ≡ run n w
run_agree m n (done a) g = refl
run_agree m n (load p k) (cons e g) = run_agree m n (k (m p)) g ∙ ap (λ v. run n (k v)) e

pub trace-agree : {A : Type 0} (m n : ℕ → Load) (w : Walk A) → Agree m n (trace m w) → trace m w ≡ trace n w
trace-agree m n (done a) g = refl
trace-agree m n (load p k) (cons e g) = ap (λ t. p ∷ t) (trace-agree m n (k (m p)) g ∙ ap (λ v. trace n (k v)) e)

-- how a proof goes through a walk: x is its result where x is the result of what follows
pub then : {A B : Type 0} (m : ℕ → Load) (w : Walk A) (f : A → Walk B) {a : A} {x : B} → a ≡ run m w → x ≡ run m (f a) → x ≡ run m (bind w f)
then m w f p e = e ∙ ap (λ v. run m (f v)) p ∙ sym (run_bind m w f)

pub loads : {A : Type 0} (m : ℕ → Load) (a : ℕ) (k : Load → Walk A) {v : Load} {x : A} → v ≡ m a → x ≡ run m (k v) → x ≡ run m (load a k)
loads m a k p e = e ∙ ap (λ v. run m (k v)) p

-- the next walk is chosen by a value y that is known to be z
pub at : {A B : Type 0} (m : ℕ → Load) (f : A → Walk B) {y z : A} {x : B} → y ≡ z → x ≡ run m (f z) → x ≡ run m (f y)
at m f p e = e ∙ sym (ap (λ v. run m (f v)) p)
