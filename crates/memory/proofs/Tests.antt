-- Flags that calls returned, joined as the tests of a definition. Assumes nothing.
use Rattle.std.proofs.Common.{◌≡◌, ℕ, ◌^◌, ◌<◌, Bool, true, false, not, ◌||◌, eqb, ltb, leb, List, [], ◌∷◌, ◌++◌, refl, ap, ◌∙◌, arith, le-ltb, lt-ltb, leb-false, leb-true}
use Rattle.memory.specs.Choice.{any}
use Rattle.memory.specs.Bits.{bits, any_set}
use Rattle.memory.proofs.Choices.{eqb_same}

-- tests joined by `||` are the tests of one list
pub joined : (xs bs : List Bool) → (any xs || any bs) ≡ any (xs ++ bs)
joined [] bs = refl
joined (true ∷ xs) bs = refl
joined (false ∷ xs) bs = joined xs bs

pub or_list : {x y : Bool} (xs bs : List Bool) → x ≡ any xs → y ≡ any bs → (x || y) ≡ any (xs ++ bs)
or_list {y = y} xs bs p q = ap (λ t. t || y) p ∙ ap (λ t. any xs || t) q ∙ joined xs bs

one : (b : Bool) → b ≡ any (b ∷ [])
one true = refl
one false = refl

or_last : {x y : Bool} (xs : List Bool) (b : Bool) → x ≡ any xs → y ≡ b → (x || y) ≡ any (xs ++ (b ∷ []))
or_last xs b p q = or_list xs (b ∷ []) p (q ∙ one b)

-- flags joined as the code joins them
pub or2 : {a b x y : Bool} → x ≡ a → y ≡ b → (x || y) ≡ any (a ∷ b ∷ [])
or2 {a} {b} p q = or_last (a ∷ []) b (p ∙ one a) q

pub or3 : {a b c x y z : Bool} → x ≡ a → y ≡ b → z ≡ c → ((x || y) || z) ≡ any (a ∷ b ∷ c ∷ [])
or3 {a} {b} {c} p q r = or_last (a ∷ b ∷ []) c (or2 p q) r

pub or4 : {a b c d x y z u : Bool} → x ≡ a → y ≡ b → z ≡ c → u ≡ d → (((x || y) || z) || u) ≡ any (a ∷ b ∷ c ∷ d ∷ [])
or4 {a} {b} {c} {d} p q r s = or_last (a ∷ b ∷ c ∷ []) d (or3 p q r) s

pub or5 : {a b c d e x y z u v : Bool} → x ≡ a → y ≡ b → z ≡ c → u ≡ d → v ≡ e → ((((x || y) || z) || u) || v) ≡ any (a ∷ b ∷ c ∷ d ∷ e ∷ [])
or5 {a} {b} {c} {d} {e} p q r s t = or_last (a ∷ b ∷ c ∷ d ∷ []) e (or4 p q r s) t

-- the code's `a < b` where a definition says that b isn't at most a
pub less_is : (a b : ℕ) → ltb a b ≡ not (leb b a)
less_is a b = go (leb b a) refl
  where
    go : (t : Bool) → leb b a ≡ t → ltb a b ≡ not t
    go true e = le-ltb a b (leb-true b a e)
    go false e = lt-ltb a b (leb-false b a e)

pub set_is : (e high low v : ℕ) → v ≡ bits e high low → not (eqb v 0) ≡ any_set e high low
set_is e high low v h = ap (λ n. not (eqb n 0)) h

pub set-whole : (e : ℕ) → e < 2 ^ 64 → not (eqb e 0) ≡ any_set e 63 0
set-whole e h = ap not (eqb_same e 0 (bits e 63 0) 0 (λ p. omega arith) (λ p. omega arith))

pub ruleset tests = (or2, or3, or5, set_is)
