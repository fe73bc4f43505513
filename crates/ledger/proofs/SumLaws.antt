-- Laws of the sums. Assumes nothing.
use Prim.Native.Nat.{ℕ, zero, suc, ◌+◌, ◌*◌, ◌/◌, ◌%◌, ◌^◌, ◌<◌}
use mathlib.Core.Path.{◌≡◌, refl, sym, ap, ap₂, fun_ext, subst, ◌∙◌}
use mathlib.Core.List.{List, [], ◌∷◌}
use mathlib.Core.Bool.{Bool, true, false, ◌&&◌, ◌||◌}
use native.Mathlib.Nat.{add-suc, add-zero, suc-mul, pow-suc, zero-mul}
use native.Mathlib.Omega.{arith}
use native.Mathlib.Decide.{ℕ_discrete}
use borrow.Author.Tests.{eqb-true, eq-eqb, ne_eqb}
use lib.Arith.{lt-one}
use lib.Count.{ones, ones_step}
use lib.Dec.{eqb}
use Rattle.memory.specs.Choice.{pick}
use Rattle.memory.specs.Window.{Lent}
use Rattle.word.specs.Word.{contains}
use Rattle.interrupt_file.specs.Bit.{bit_at}
use Rattle.interrupt_file.proofs.Bits.{bit-zero, bit-suc, bit_lt}
use Rattle.ledger.specs.Places.{Side, first_window, second_window, window_of, Place, same_side, same_place, lies_in, is_place}
use Rattle.ledger.specs.Sums.{sum_to, of_file, total, listed, among, Different, Places}
use Rattle.ledger.proofs.Answering.{Apart}
use Rattle.memory.proofs.Truth.{true-false}
use Rattle.ledger.proofs.Sides.{both-overlap}

-- of the identities below k
pub to_ext : (k : ℕ) (g h : ℕ → ℕ) → ((n : ℕ) → n < k → g n ≡ h n) → sum_to k g ≡ sum_to k h
unfolding sum_to
to_ext zero g h e = refl
to_ext (suc k) g h e = ap₂ ◌+◌ (e k (omega arith)) (to_ext k g h (λ n l. e n (omega arith)))

pub to_add : (k : ℕ) (g h : ℕ → ℕ) → sum_to k (λ n. g n + h n) ≡ sum_to k g + sum_to k h
unfolding sum_to
to_add zero g h = refl
to_add (suc k) g h = omega (arith, to_add k g h)

pub to-zero : (k : ℕ) (g : ℕ → ℕ) → ((n : ℕ) → n < k → g n ≡ 0) → sum_to k g ≡ 0
unfolding sum_to
to-zero zero g e = refl
to-zero (suc k) g e = omega (arith, e k (omega arith), to-zero k g (λ n l. e n (omega arith)))

-- sums in parts
to_front : (k : ℕ) (g : ℕ → ℕ) → sum_to (suc k) g ≡ g 0 + sum_to k (λ n. g (suc n))
unfolding sum_to
to_front zero g = omega arith
to_front (suc k) g = omega (arith, to_front k g)

to_append : (a b : ℕ) (g : ℕ → ℕ) → sum_to (a + b) g ≡ sum_to a g + sum_to b (λ r. g (a + r))
unfolding sum_to
to_append a zero g = rw (add-zero a) (omega arith)
to_append a (suc b) g = rw add-suc (omega (arith, to_append a b g))

pub to-split : (q b : ℕ) (g : ℕ → ℕ) → sum_to (q * b) g ≡ sum_to q (λ i. sum_to b (λ r. g (i * b + r)))
unfolding sum_to
to-split zero b g = rw zero-mul
to-split (suc q) b g = rw (suc-mul, to_append (q * b) b g) (omega (arith, to-split q b g))

-- the ones of a number are its bits added up
pub ones_none : ones 0 ≡ 0
unfolding ones
ones_none = refl

pub ones-sum : (k v : ℕ) → v < 2 ^ k → ones v ≡ sum_to k (λ j. bit_at j v)
unfolding sum_to
ones-sum zero v l = rw (lt-one l) ones_none
ones-sum (suc k) v l =
    let h : v / 2 < 2 ^ k = omega (arith, rw pow-suc at l) in
    ones_step v ∙ ap (λ (x : ℕ). v % 2 + x) (ones-sum k (v / 2) h ∙ to_ext k _ _ (λ j p. sym (bit-suc j v)))
    ∙ ap (λ (x : ℕ). x + sum_to k (λ j. bit_at (suc j) v)) (sym (bit-zero v)) ∙ sym (to_front k (λ j. bit_at j v))

to-pick : (k : ℕ) (g : ℕ → ℕ) (b : Bool) → sum_to k (λ n. pick b (g n) 0) ≡ pick b (sum_to k g) 0
to-pick k g true = refl
to-pick k g false = to-zero k (λ n. 0) (λ n l. refl)

-- where one identity counts
one-to : (k i x : ℕ) → i < k → sum_to k (λ n. pick (eqb i n) x 0) ≡ x
unfolding sum_to
one-to zero i x l = absurd (omega arith)
one-to (suc k) i x l = go (λ p. one-to k i x p) (ℕ_discrete i k)
  where
    go : (i < k → sum_to k (λ n. pick (eqb i n) x 0) ≡ x) → Dec (i ≡ k) → pick (eqb i k) x 0 + sum_to k (λ n. pick (eqb i n) x 0) ≡ x
    go ih (yes e) = rw (eq-eqb i k e, to-zero k (λ n. pick (eqb i n) x 0) (λ n p. rw (ne_eqb i n (λ z. omega arith)))) (omega arith)
    go ih (no d) = rw (ne_eqb i k d) (omega (arith, ih (omega arith)))

-- of a file's identities
file_ext : (g h : ℕ → ℕ) → ((n : ℕ) → n < 2048 → g n ≡ h n) → of_file g ≡ of_file h
unfolding of_file
file_ext g h e = to_ext _ _ _ (λ n l. e _ (omega arith))

file_add : (g h : ℕ → ℕ) → of_file (λ n. g n + h n) ≡ of_file g + of_file h
unfolding of_file
file_add g h = to_add _ _ _

file-zero : of_file (λ n. 0) ≡ 0
unfolding of_file
file-zero = to-zero _ _ (λ n l. refl)

-- each of the 2,048 counts once
pub file-one : (i x : ℕ) → i < 2048 → of_file (λ n. pick (eqb i n) x 0) ≡ x
unfolding of_file
file-one i x l = one-to _ i x (omega arith)

by-file : (g : ℕ → ℕ) (b : Bool) → of_file (λ n. pick b (g n) 0) ≡ pick b (of_file g) 0
by-file g true = refl
by-file g false = file-zero

-- of the files of a list
pub total_add : (ps : List Place) (g h : Place → ℕ → ℕ) → total ps (λ p n. g p n + h p n) ≡ total ps g + total ps h
unfolding total
total_add [] g h = refl
total_add (p ∷ ps) g h = omega (arith, file_add (g p) (h p), total_add ps g h)

pub total_ext : (l : Lent) (ps : List Place) (g h : Place → ℕ → ℕ) → Places l ps
    → ((p : Place) (n : ℕ) → is_place l p ≡ true → n < 2048 → g p n ≡ h p n) → total ps g ≡ total ps h
unfolding total
total_ext l [] g h w e = refl
total_ext l (p ∷ ps) g h w e = ap₂ ◌+◌ (file_ext (g p) (h p) (λ n k. e p n w.0 k)) (total_ext l ps g h w.1 e)

pub total_cong : (ps : List Place) (g h : Place → ℕ → ℕ) → ((p : Place) (n : ℕ) → g p n ≡ h p n) → total ps g ≡ total ps h
total_cong ps g h e = ap (total ps) (fun_ext (λ p. fun_ext (λ n. e p n)))

pub total-zero : (ps : List Place) → total ps (λ p n. 0) ≡ 0
unfolding total
total-zero [] = refl
total-zero (p ∷ ps) = omega (arith, file-zero, total-zero ps)

-- files at different addresses
abbrev pub Distinct : List Place → Type 0
Distinct [] = Unit {0}
Distinct (p ∷ ps) = (among ps p.file ≡ false) × Distinct ps

-- where the identities of one file count: files at different addresses count them once
pub file_hit : (ps : List Place) (file : ℕ) (g : ℕ → ℕ) → Distinct ps → total ps (λ p n. pick (eqb file p.file) (g n) 0) ≡ pick (among ps file) (of_file g) 0
unfolding total
file_hit [] file g d = refl
file_hit (p ∷ ps) file g d = rw (by-file g (eqb file p.file), file_hit ps file g d.1) (go (eqb file p.file) refl)
  where
    go : (t : Bool) → eqb file p.file ≡ t → pick t (of_file g) 0 + pick (among ps file) (of_file g) 0 ≡ pick (t || among ps file) (of_file g) 0
    go true e = rw (eqb-true file p.file e, d.0) (omega arith)
    go false e = omega arith

-- the ones of a doubleword's bits are those of its identities
pub file-ones : (d v : ℕ) → d < 32 → v < 2 ^ 64 → of_file (λ n. pick (eqb d (n / 64) && contains v (n % 64)) 1 0) ≡ ones v
unfolding of_file contains bit_at
file-ones d v ld lv =
    to-split 32 64 (λ n. pick (eqb d (n / 64) && contains v (n % 64)) 1 0)
    ∙ to_ext 32 _ _ (λ i p. to_ext 64 _ _ (λ r q. bit_at_lem i r q) ∙ to-pick 64 (λ r. bit_at r v) (eqb d i))
    ∙ one-to 32 d (sum_to 64 (λ r. bit_at r v)) ld ∙ sym (ones-sum 64 v lv)
  where
    quotient : (i r : ℕ) → r < 64 → (i * 64 + r) / 64 ≡ i
    quotient i r q = omega arith

    rest : (i r : ℕ) → r < 64 → (i * 64 + r) % 64 ≡ r
    rest i r q = omega arith

    digit : (x : ℕ) → x < 2 → ◌≡◌ {A = ℕ} (pick (eqb x 1) 1 0) x
    digit zero l = refl
    digit (suc zero) l = refl
    digit (suc (suc x)) l = absurd (omega arith)

    both : (a b : Bool) (x : ℕ) → ◌≡◌ {A = ℕ} (pick b 1 0) x → ◌≡◌ {A = ℕ} (pick (a && b) 1 0) (pick a x 0)
    both true b x e = e
    both false b x e = refl

    digit_of : (r : ℕ) → ◌≡◌ {A = ℕ} (pick (contains v r) 1 0) (bit_at r v)
    digit_of r = digit (bit_at r v) (bit_lt r v)

    bit_at_lem : (i r : ℕ) → r < 64 → ◌≡◌ {A = ℕ} (pick (eqb d ((i * 64 + r) / 64) && contains v ((i * 64 + r) % 64)) 1 0) (pick (eqb d i) (bit_at r v) 0)
    bit_at_lem i r q = rw (quotient i r q, rest i r q) (both (eqb d i) (contains v r) (bit_at r v) (digit_of r))

-- different files of windows that are apart are at different addresses
module _ (l : Lent) (apart : Apart l) where
  not-both : (p q : Place) → is_place l p ≡ true → is_place l q ≡ true → same_place p q ≡ false → p.file ≡ q.file → ⊥
  not-both p q hp hq d e = go p.side q.side (subst (λ (f : ℕ). lies_in (window_of l p.side) f ≡ true) e hp) hq (rw (eq-eqb p.file q.file e) at d)
    where
      go : (s t : Side) → lies_in (window_of l s) q.file ≡ true → lies_in (window_of l t) q.file ≡ true → (same_side s t && true) ≡ false → ⊥
      go first_window first_window a b z = true-false z
      go first_window second_window a b z = both-overlap l q.file a b apart
      go second_window first_window a b z = both-overlap l q.file b a apart
      go second_window second_window a b z = true-false z

  not-among : (p : Place) (qs : List Place) → is_place l p ≡ true → Places l qs → listed qs p ≡ false → among qs p.file ≡ false
  not-among p [] hp w d = refl
  not-among p (q ∷ qs) hp w d = go (same_place p q) (listed qs p) refl refl d (λ f. not-among p qs hp w.1 f)
    where
      go : (a b : Bool) → same_place p q ≡ a → listed qs p ≡ b → (a || b) ≡ false → (listed qs p ≡ false → among qs p.file ≡ false)
          → (eqb p.file q.file || among qs p.file) ≡ false
      go true b e f z ih = absurd (true-false z)
      go false true e f z ih = absurd (true-false z)
      go false false e f z ih = rw (ne_eqb p.file q.file (λ h. not-both p q hp w.0 e h)) (ih f)

  pub distinct : (ps : List Place) → Places l ps → Different ps → Distinct ps
  distinct [] w d = tt
  distinct (p ∷ ps) w d = (not-among p ps w.0 w.1 d.0, distinct ps w.1 d.1)
