-- A report's words, by the bytes that they are read from. Assumes nothing.
use Prim.Native.Nat.{ℕ, zero, suc, ◌+◌, ◌*◌, ◌<◌, ◌≤◌}
use mathlib.Core.List.{List, [], ◌∷◌, ◌++◌}
use mathlib.Core.Bool.{Bool, true, false}
use mathlib.Core.Path.{◌≡◌, refl, sym, ap, ◌∙◌}
use native.Mathlib.Numerals.{add-one}
use native.Mathlib.Omega.{arith}
use native.Mathlib.Nat.{not-suc-le-zero}
use borrow.Author.Tests.{lt-ltb, le-ltb, ltb-true, ltb-false}
use lib.Dec.{ltb}
use lib.Count.{ones}
use lib.ListN.{length, set, get_or, length-set, length-append, replicate, get_or-replicate, get_or-append}
use lib.Seq.{get_or_at}
use Rattle.std.specs.Prelude.{Result, Ok, Err}
use Rattle.memory.specs.declared.Starts.{Starts}
use Rattle.memory.specs.Window.{Lent, lent, part_of}
use Rattle.interrupt_file.specs.declared.Pair.{Pair}
use Rattle.interrupt_file.specs.Report.{pair_of, pairs_of, count_of, file_report, refused_report}
use Rattle.iommu_files.specs.Files.{report_of}
use Rattle.iommu_refusals.specs.Refusals.{report_refusal}
use Rattle.iommu_refusals.specs.Code.{Reportable}
use Rattle.iommu_refusals.proofs.Bounds.{file_bytes_lem}
use Rattle.refusal.specs.declared.Refusal.{Refusal}
use Rattle.refusal.specs.Refusal.{number_of}
use Rattle.refusal.specs.Checks.{unless_refused}
use Rattle.capi_room.specs.Room.{fitting}
use Rattle.capi_room.proofs.Rooms.{long-changed}
use Rattle.capi_report.specs.Words.{no_pair, with_pairs, with_report, report_in}
use Rattle.capi_report.specs.Code.{number_told, file_bytes, word_in, pair_in, pending_ones}

-- the first k pairs are put, and their ones counted
pub record Put (pair : ℕ → Pair) (before : List ℕ) (k count : ℕ) (out : List ℕ) : Type 0 where
  pub turns : k ≤ 32
  pub long : length out ≡ length before
  pub words : out ≡ with_pairs before pair k
  pub counts : count ≡ pending_ones pair k
  pub small : count ≤ 64 * k

pub none-put : (pair : ℕ → Pair) (before : List ℕ) → Put pair before 0 0 before
unfolding with_pairs pending_ones
none-put pair before = record { turns = omega arith; long = refl; words = refl; counts = refl; small = omega arith }

module _ (bytes : List ℕ) (before : List ℕ) {k count : ℕ} {out : List ℕ} (p : Put (pair_in bytes) before k count out) where
  pub one_more : (d e more : ℕ) → k < 32 → d ≡ word_in bytes (16 * k) → e ≡ word_in bytes (16 * k + 8) → more ≡ count + ones d → more ≤ count + 64
      → Put (pair_in bytes) before (k + 1) more (set (set out (2 + 2 * k) d) (3 + 2 * k) e)
  unfolding with_pairs pending_ones pair_in
  one_more d e more h hd he hc hl =
      record {
        turns = omega arith;
        long = simp length-set p.long;
        words = rw (add-one, p.words, hd, he);
        counts = rw (add-one, hc, p.counts, hd);
        small = omega (arith, p.small);
      }

  pub all-put : 32 ≤ k → (count ≡ pending_ones (pair_in bytes) 32) × (out ≡ with_pairs before (pair_in bytes) 32)
  all-put h =
      let z : k ≡ 32 = omega (arith, p.turns) in
      (p.counts ∙ ap (pending_ones (pair_in bytes)) z, p.words ∙ ap (with_pairs before (pair_in bytes)) z)

-- the pairs of a list that stand below its length are those of a function
agree : (f g : ℕ → Pair) (out : List ℕ) (k : ℕ) → ((i : ℕ) → i < k → f i ≡ g i) → (with_pairs out f k ≡ with_pairs out g k) × (pending_ones f k ≡ pending_ones g k)
unfolding with_pairs pending_ones
agree f g out zero h = (refl, refl)
agree f g out (suc k) h =
    let r = agree f g out k (λ i l. h i (omega arith)) in
    let e : f k ≡ g k = h k (omega arith) in
    (rw (r.0, e), rw (r.1, e))

-- a file's pairs
module _ (bytes : List ℕ) where
  long : (n : ℕ) → length (pairs_of bytes n) ≡ n
  unfolding pairs_of
  long zero = refl
  long (suc n) = length-append (pairs_of bytes n) _ ∙ rw (long n, add-one)

  pair-at : (d : Pair) (n k : ℕ) → k < n → get_or (pairs_of bytes n) k d ≡ pair_of bytes k
  unfolding pairs_of
  pair-at d zero k h = absurd (not-suc-le-zero h)
  pair-at d (suc n) k h = go (ltb k n) refl (pair-at d n k)
    where
      go : (b : Bool) → ltb k n ≡ b → (k < n → get_or (pairs_of bytes n) k d ≡ pair_of bytes k) → get_or (pairs_of bytes n ++ (pair_of bytes n ∷ [])) k d ≡ pair_of bytes k
      go true e r =
          let l : k < n = ltb-true k n e in
          get_or-append (pairs_of bytes n) _ d k (omega (arith, long n)) ∙ r l
      go false e r =
          let z : k ≡ n = omega (arith, ltb-false k n e) in
          rw (z, get_or_at (pairs_of bytes n) (pair_of bytes n) [] d n (long n))

  whole : 512 ≤ length bytes → (k : ℕ) → k < 32 → pair_in bytes k ≡ pair_of bytes k
  unfolding pair_in
  whole l k h = simp (le-ltb (length bytes) (16 * k + 8) (omega arith), le-ltb (length bytes) (16 * k + 8 + 8) (omega arith))

  counted : (k : ℕ) → pending_ones (pair_of bytes) k ≡ count_of bytes k
  unfolding pending_ones count_of
  counted zero = refl
  counted (suc k) = rw (counted k)

-- no bytes have zeros alone
none : (k : ℕ) → pair_in [] k ≡ no_pair
unfolding pair_in
none k = simp (lt-ltb 0 (16 * k + 8) (omega arith), lt-ltb 0 (16 * k + 8 + 8) (omega arith))

none-counted : (k : ℕ) → pending_ones (λ i. no_pair) k ≡ 0
unfolding pending_ones ones
none-counted zero = refl
none-counted (suc k) = rw (none-counted k)

-- the words of a file's bytes are those of its report, and those of none of a refusal's
of_file_lem : (bytes : List ℕ) (out : List ℕ) → 512 ≤ length bytes
    → set (with_pairs (set out 0 0) (pair_in bytes) 32) 1 (pending_ones (pair_in bytes) 32) ≡ with_report out (file_report bytes)
of_file_lem bytes out l =
    let p = agree (pair_in bytes) (λ k. get_or (pairs_of bytes 32) k no_pair) (set out 0 0) 32 (λ k h. whole bytes l k h ∙ sym (pair-at bytes no_pair 32 k h)) in
    let q = agree (pair_in bytes) (pair_of bytes) out 32 (whole bytes l) in
    rw (p.0, q.1, counted bytes 32)

of_refusal : (r : Refusal) (out : List ℕ)
    → set (with_pairs (set out 0 (number_of r)) (pair_in []) 32) 1 (pending_ones (pair_in []) 32) ≡ with_report out (refused_report (number_of r))
of_refusal r out =
    let p = agree (pair_in []) (λ k. get_or (replicate 32 no_pair) k no_pair) (set out 0 (number_of r)) 32 (λ k l. none k ∙ sym (get_or-replicate 32 k no_pair no_pair l)) in
    let q = agree (pair_in []) (λ k. no_pair) out 32 (λ k l. none k) in
    rw (p.0, q.1, none-counted 32)

module _ (starts : Starts) (xs ys : List ℕ) (file : ℕ) (out : List ℕ) where
  abbrev l : Lent
  l = lent starts xs ys

  by_checks : (r : Result (Unit {0}) Refusal) → Reportable starts (length xs) (length ys) file r
      → set (with_pairs (set out 0 (number_told r)) (pair_in (file_bytes l file r)) 32) 1 (pending_ones (pair_in (file_bytes l file r)) 32)
      ≡ with_report out (unless_refused r (λ why. refused_report (number_of why)) (file_report (part_of l file 512)))
  by_checks (Ok u) h = of_file_lem (part_of l file 512) out (file_bytes_lem starts xs ys file h.0)
  by_checks (Err r) h = of_refusal r out

  pub long-report : (n t : ℕ) (r : Result (Unit {0}) Refusal) (e before x : List ℕ) (c : ℕ)
      → n ≤ length out → r ≡ report_refusal starts (length xs) (length ys) file → Reportable starts (length xs) (length ys) file r → t ≡ number_told r → e ≡ file_bytes l file r
      → c ≡ pending_ones (pair_in e) 32 → x ≡ with_pairs (set out 0 t) (pair_in e) 32
      → set x 1 c ≡ fitting n out before (with_report out (report_in l file))
  unfolding report_of
  long-report n t r e before x c room h k ht he hc hx =
      long-changed n out before _ _ room
      (rw (hc, hx, ht, he) (by_checks r k) ∙ ap (λ (m : Result (Unit {0}) Refusal). with_report out (unless_refused m (λ why. refused_report (number_of why)) (file_report (part_of l file 512)))) h)
