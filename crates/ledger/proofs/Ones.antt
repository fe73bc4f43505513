-- A take of one identity is, to every identity and in every byte, the take of many with its bit alone. Assumes nothing.
use Prim.Native.Nat.{ℕ, zero, suc, ◌*◌, ◌/◌, ◌%◌, ◌^◌, ◌<◌}
use mathlib.Core.Path.{◌≡◌, refl, sym, ap, ap₂, ◌∙◌}
use mathlib.Core.Bool.{Bool, true, false, ◌&&◌}
use native.Mathlib.Nat.{add-zero, one-mul, zero-mul}
use native.Mathlib.Omega.{arith}
use native.Mathlib.Decide.{ℕ_discrete}
use borrow.Author.Tests.{eq-eqb, ne_eqb}
use lib.Count.{ones, ones_cat}
use lib.Dec.{eqb}
use lib.ListN.{length}
use lib.Pow.{pow_pos}
use Rattle.std.specs.Prelude.{Result, Ok, Err}
use Rattle.memory.proofs.Truth.{and_on, and_off}
use Rattle.memory.specs.Choice.{pick}
use Rattle.refusal.specs.declared.Refusal.{Refusal}
use Rattle.refusal.specs.Checks.{unless_refused}
use Rattle.memory.specs.Window.{Lent}
use Rattle.word.specs.Word.{contains}
use Rattle.word.proofs.Bits.{bit_pow, zero-digit}
use Rattle.interrupt_file.proofs.Pending.{pending_lt}
use Rattle.interrupt_file.specs.File.{is_file, pending_of}
use Rattle.iommu_files.specs.declared.Answer.TheVariants.{Refused, Taken}
use Rattle.iommu_files.specs.Answers.{numbers_of, refused}
use Rattle.iommu_files.specs.Files.{pending_at, answered_at, take_of, take_many_of}
use Rattle.iommu_files.proofs.Files.{same-refusal, one-answered, one-after}
use Rattle.iommu.specs.Operations.{Op, take, take_many, answer_of, after_of}
use Rattle.ledger.specs.Ledger.{successful_take, nothing, op_event}
use Rattle.ledger.specs.Sums.{op_takes}
use Rattle.ledger.specs.Closes.{take_refused, take_many_refused}
use Rattle.ledger.proofs.Answering.{starts, xs, ys}
use Rattle.ledger.proofs.SumLaws.{ones_none}

-- the one bit of its doubleword is the identity
same_bit : (i n : ℕ) → eqb i n ≡ (eqb (i / 64) (n / 64) && eqb (n % 64) (i % 64))
same_bit i n = go (ℕ_discrete i n) (ℕ_discrete (i / 64) (n / 64))
  where
    apart : (i n : ℕ) → (i ≡ n → ⊥) → i / 64 ≡ n / 64 → n % 64 ≡ i % 64 → ⊥
    apart i n d e f = d (omega arith)

    go : Dec (i ≡ n) → Dec (i / 64 ≡ n / 64) → eqb i n ≡ (eqb (i / 64) (n / 64) && eqb (n % 64) (i % 64))
    go (yes e) d = rw (eq-eqb i n e, eq-eqb (i / 64) (n / 64) (ap (λ (k : ℕ). k / 64) e), eq-eqb (n % 64) (i % 64) (ap (λ (k : ℕ). k % 64) (sym e)))
    go (no d) (yes e) = rw (ne_eqb i n d, eq-eqb (i / 64) (n / 64) e, ne_eqb (n % 64) (i % 64) (apart i n d e))
    go (no d) (no e) = rw (ne_eqb i n d, ne_eqb (i / 64) (n / 64) e)

bit_of : (p i n : ℕ) → p < 2 → (eqb i n && eqb p 1) ≡ (eqb (i / 64) (n / 64) && contains (p * 2 ^ (i % 64)) (n % 64))
bit_of zero i n l =
    let z : contains (0 * 2 ^ (i % 64)) (n % 64) ≡ false = ap (λ (v : ℕ). contains v (n % 64)) (zero-mul (2 ^ (i % 64))) ∙ zero-digit (n % 64) in
    rw z (and_off (eqb i n) ∙ sym (and_off (eqb (i / 64) (n / 64))))
bit_of (suc zero) i n l =
    let o : contains (1 * 2 ^ (i % 64)) (n % 64) ≡ eqb (n % 64) (i % 64) = ap (λ (v : ℕ). contains v (n % 64)) (one-mul (2 ^ (i % 64))) ∙ bit_pow (n % 64) (i % 64) in
    rw o (and_on (eqb i n) ∙ same_bit i n)
bit_of (suc (suc p)) i n l = absurd (omega arith)

ones-one : ones 1 ≡ 1
unfolding ones
ones-one = refl

ones_pow : (k : ℕ) → ones (1 * 2 ^ k) ≡ 1
ones_pow k = ap ones (sym (add-zero (1 * 2 ^ k))) ∙ ones_cat k 1 0 (pow_pos k) ∙ omega (arith, ones_none, ones-one)

weight_of : (p k : ℕ) (t : Bool) → p < 2 → ◌≡◌ {A = ℕ} (pick (eqb p 1 && t) 1 0) (pick t (ones (p * 2 ^ k)) 0)
weight_of zero k true l = sym (ap ones (zero-mul (2 ^ k)) ∙ ones_none)
weight_of zero k false l = refl
weight_of (suc zero) k true l = sym (ones_pow k)
weight_of (suc zero) k false l = refl
weight_of (suc (suc p)) k t l = absurd (omega arith)

module _ (l : Lent) (f i : ℕ) where
  abbrev pub many : Op
  many = take_many f (i / 64) (2 ^ (i % 64))

  abbrev p : ℕ
  p = pending_at (starts l) (xs l) (ys l) f i

  small : p < 2
  small = go (is_file l.first.start (length (xs l)) f)
    where
      go : (b : Bool) → pick b (pending_of l.first.start (xs l) f i) (pending_of l.second.start (ys l) f i) < 2
      go true = pending_lt l.first.start (xs l) f i
      go false = pending_lt l.second.start (ys l) f i

  -- by the checks, which are the same
  by_checks : {A : Type 0} (one many : Result (Unit {0}) Refusal → ℕ → A) → ((r : Result (Unit {0}) Refusal) → one r p ≡ many r (p * 2 ^ (i % 64)))
      → one (take_refused l f i) p ≡ many (take_many_refused l f (i / 64)) (answered_at (starts l) (xs l) (ys l) f (i / 64) (2 ^ (i % 64)))
  by_checks one many h =
      h (take_refused l f i) ∙ ap₂ many (sym (same-refusal (starts l) (xs l) (ys l) f i)) (sym (one-answered (starts l) (xs l) (ys l) f i))

  pub one-event : (file n : ℕ) → op_event file n (take f i) (numbers_of (answer_of l (take f i))) ≡ op_event file n many (numbers_of (answer_of l many))
  unfolding take_of take_many_of
  one-event file n =
      by_checks (λ r v. op_event file n (take f i) (numbers_of (unless_refused r refused (Taken v)))) (λ r v. op_event file n many (numbers_of (unless_refused r refused (Taken v)))) go
    where
      go : (r : Result (Unit {0}) Refusal) → op_event file n (take f i) (numbers_of (unless_refused r refused (Taken p)))
          ≡ op_event file n many (numbers_of (unless_refused r refused (Taken (p * 2 ^ (i % 64)))))
      go (Ok u) = ap (λ (b : Bool). pick (eqb f file && b) successful_take nothing) (bit_of p i n small)
      go (Err r) = refl

  pub one_weight : (these : ℕ → Bool) → op_takes these (take f i) (numbers_of (answer_of l (take f i))) ≡ op_takes these many (numbers_of (answer_of l many))
  unfolding take_of take_many_of
  one_weight these =
      by_checks (λ r v. op_takes these (take f i) (numbers_of (unless_refused r refused (Taken v)))) (λ r v. op_takes these many (numbers_of (unless_refused r refused (Taken v)))) go
    where
      go : (r : Result (Unit {0}) Refusal) → op_takes these (take f i) (numbers_of (unless_refused r refused (Taken p)))
          ≡ op_takes these many (numbers_of (unless_refused r refused (Taken (p * 2 ^ (i % 64)))))
      go (Ok u) = weight_of p (i % 64) (these f) small
      go (Err r) = refl

  pub one_leaves : after_of l many ≡ after_of l (take f i)
  one_leaves = one-after (starts l) (xs l) (ys l) f i
