-- Takes and reports, by the tests that the code makes. Assumes nothing.
use Prim.Native.Nat.{ℕ, ◌*◌, ◌/◌, ◌%◌, ◌^◌, ◌≤◌}
use mathlib.Core.Bool.{Bool, true, false}
use mathlib.Core.List.{List}
use mathlib.Core.Path.{◌≡◌, refl, sym, ap, ap₂, subst, ◌∙◌}
use native.Mathlib.Nat.{one-mul, mod-eq_of_lt}
use native.Mathlib.Omega.{arith}
use lib.ListN.{length}
use lib.Pow.{pow-lt, shl-shr}
use Rattle.std.specs.Prelude.{Result, Ok, Err}
use Rattle.memory.specs.Choice.{pick}
use Rattle.memory.specs.declared.Starts.{Starts}
use Rattle.memory.specs.Window.{Lent, lent, Leaves, part_of}
use Rattle.refusal.specs.declared.Refusal.{Refusal}
use Rattle.refusal.specs.Refusal.{number_of}
use Rattle.refusal.specs.Checks.{unless_refused}
use Rattle.interrupt_file.specs.File.{is_file, pending_of, taken_of, after_take_many}
use Rattle.interrupt_file.proofs.Many.{one_left, one-taken}
use Rattle.interrupt_file.specs.Report.{file_report, refused_report}
use Rattle.interrupt_file.specs.declared.Report.{Report}
use Rattle.iommu_files.proofs.Answers.{answered}
use Rattle.iommu_refusals.specs.Refusals.{is_lent_file, take_refusal, take_many_refusal, report_refusal}
use Rattle.iommu_refusals.proofs.Refusals.{one-refusal}
use Rattle.refusal.proofs.Checks.{passed, stopped}
use Rattle.iommu_refusals.proofs.Bounds.{take_lent_lem, take-doubleword, take_walkable, in_second, report-lent, report_walkable, file_bytes_lem}
use Rattle.iommu_files.specs.declared.Answer.{Answer}
use Rattle.iommu_files.specs.declared.Answer.TheVariants.{Refused, Taken}
use Rattle.iommu_files.specs.declared.Numbers.{Numbers}
use Rattle.iommu_files.specs.Answers.{numbers_of, refused, Answered}
use Rattle.iommu_files.specs.Files.{changed_at, pending_at, answered_at, many_taken_at, take_of, after_take_of, take_many_of, after_take_many_of, report_of}

-- a change in one window, and none in the other
module _ (starts : Starts) (xs ys : List ℕ) (file : ℕ) (change : ℕ → List ℕ → List ℕ) (b : Bool) (hb : b ≡ is_file starts.first (length xs) file) where
  pub changed-first : (after : List ℕ) → b ≡ true → after ≡ change starts.first xs → Leaves (changed_at starts xs ys file change) after ys
  changed-first after t e = let h : is_file starts.first (length xs) file ≡ true = sym hb ∙ t in record { of_first = simp h e; of_second = simp h }

  pub changed-second : (after : List ℕ) → b ≡ false → after ≡ change starts.second ys → Leaves (changed_at starts xs ys file change) xs after
  changed-second after t e = let h : is_file starts.first (length xs) file ≡ false = sym hb ∙ t in record { of_first = simp h; of_second = simp h e }

pub unchanged : (starts : Starts) (xs ys : List ℕ) → Leaves (lent starts xs ys) xs ys
unchanged starts xs ys = record { of_first = refl; of_second = refl }

-- what is left by one is left by another that is the same
pub left-same : (k l : Lent) (xs ys : List ℕ) → k ≡ l → Leaves k xs ys → Leaves l xs ys
left-same k l xs ys e h = subst (λ (m : Lent). Leaves m xs ys) e h

-- a take of many
module _ (starts : Starts) (xs ys : List ℕ) (file d mask : ℕ) (r : Result (Unit {0}) Refusal) (h : r ≡ take_many_refusal starts (length xs) (length ys) file d) where
  module _ (why : Refusal) (z : r ≡ Err why) where
    pub many-refused : (k : ℕ) → k ≡ number_of why → Refused k ≡ take_many_of starts xs ys file d mask
    unfolding take_many_of
    many-refused k e = stopped _ refused _ _ why (sym h ∙ z) (ap Refused e)

    pub many-kept : Leaves (after_take_many_of starts xs ys file d mask) xs ys
    unfolding after_take_many_of
    many-kept =
        left-same (lent starts xs ys) _ xs ys (stopped _ (λ k. lent starts xs ys) _ _ why (sym h ∙ z) refl) (unchanged starts xs ys)

  module _ (u : Unit {0}) (z : r ≡ Ok u) where
    pub many_made : (w : ℕ) → w ≡ answered_at starts xs ys file d mask → Taken w ≡ take_many_of starts xs ys file d mask
    unfolding take_many_of
    many_made w e = passed _ refused _ _ u (sym h ∙ z) (ap Taken e)

    pub many-left : (us vs : List ℕ) → Leaves (many_taken_at starts xs ys file d mask) us vs → Leaves (after_take_many_of starts xs ys file d mask) us vs
    unfolding after_take_many_of
    many-left us vs k = left-same (many_taken_at starts xs ys file d mask) _ us vs (passed _ (λ i. lent starts xs ys) _ _ u (sym h ∙ z) refl) k

pub ruleset many_ways = (answered, many-refused, many-kept, many_made, many-left, take_lent_lem, take-doubleword, take_walkable)

-- what a taken answer tells
taken-same : (w v : ℕ) → Taken w ≡ Taken v → w ≡ v
taken-same w v e = ap (λ (n : Numbers). n.first) (ap numbers_of e)

taken_refused : (w r : ℕ) → Taken w ≡ Refused r → ⊥
taken_refused w r e = let k : ◌≡◌ {A = ℕ} 6 5 = ap (λ (n : Numbers). n.kind) (ap numbers_of e) in omega arith

-- of one: refused, or made
module _ (starts : Starts) (xs ys : List ℕ) (file n : ℕ) (r : Result (Unit {0}) Refusal) (h : r ≡ take_refusal starts (length xs) (length ys) file n) where
  pub take_refused_lem : (why : Refusal) → r ≡ Err why → refused why ≡ take_of starts xs ys file n
  unfolding take_of
  take_refused_lem why z = stopped _ refused _ _ why (sym h ∙ z) refl

  pub take_made : (u : Unit {0}) → r ≡ Ok u → (w : ℕ) → w ≡ pending_at starts xs ys file n → Taken w ≡ take_of starts xs ys file n
  unfolding take_of
  take_made u z w e = passed _ refused _ _ u (sym h ∙ z) (ap Taken e)

-- of one, by that of many: the mask has its bit alone
module _ (starts : Starts) (xs ys : List ℕ) (file n : ℕ) where
  pub same-refusal : take_many_refusal starts (length xs) (length ys) file (n / 64) ≡ take_refusal starts (length xs) (length ys) file n
  same-refusal = one-refusal starts (length xs) (length ys) file n

  pub one-answered : answered_at starts xs ys file (n / 64) (2 ^ (n % 64)) ≡ pending_at starts xs ys file n * 2 ^ (n % 64)
  one-answered = go (is_file starts.first (length xs) file)
    where
      go : (b : Bool) → pick b (taken_of starts.first xs file (n / 64) (2 ^ (n % 64))) (taken_of starts.second ys file (n / 64) (2 ^ (n % 64)))
          ≡ pick b (pending_of starts.first xs file n) (pending_of starts.second ys file n) * 2 ^ (n % 64)
      go true = one-taken starts.first xs file n
      go false = one-taken starts.second ys file n

  pub one-after : after_take_many_of starts xs ys file (n / 64) (2 ^ (n % 64)) ≡ after_take_of starts xs ys file n
  unfolding after_take_many_of after_take_of
  one-after =
      ap₂ (λ (r : Result (Unit {0}) Refusal) (k : Lent). unless_refused r (λ i. lent starts xs ys) k) same-refusal
      (ap₂ (λ (us vs : List ℕ). lent starts (pick (is_file starts.first (length xs) file) us xs) (pick (is_file starts.first (length xs) file) ys vs))
      (one_left starts.first xs file n) (one_left starts.second ys file n))

  -- the mask as the machine has it
  abbrev mask : ℕ
  mask = 1 * 2 ^ (n % 64) % 2 ^ 64

  mask_is : mask ≡ 2 ^ (n % 64)
  mask_is = ap (λ (b : ℕ). b % 2 ^ 64) (one-mul (2 ^ (n % 64))) ∙ mod-eq_of_lt (pow-lt {i = n % 64} {j = 64} (omega arith))

  -- made: moved to bit 0
  pub one_made : (a : Answer) (w : ℕ) → Answered a (take_many_of starts xs ys file (n / 64) mask) → a ≡ Taken w
      → Answered (Taken (w / 2 ^ (n % 64))) (take_of starts xs ys file n)
  unfolding take_many_of
  one_made a w h e = go _ same-refusal (sym e ∙ h.same)
    where
      go : (r : Result (Unit {0}) Refusal) → r ≡ take_refusal starts (length xs) (length ys) file n → Taken w ≡ unless_refused r refused (Taken (answered_at starts xs ys file (n / 64) mask))
          → Answered (Taken (w / 2 ^ (n % 64))) (take_of starts xs ys file n)
      go (Ok u) z k =
          let v : w ≡ pending_at starts xs ys file n * 2 ^ (n % 64) =
          taken-same _ _ k ∙ ap (λ (b : ℕ). answered_at starts xs ys file (n / 64) b) mask_is ∙ one-answered in
          answered _ _ (take_made starts xs ys file n (Ok u) z u refl _ (ap (λ (x : ℕ). x / 2 ^ (n % 64)) v ∙ shl-shr (pending_at starts xs ys file n) (n % 64)))
      go (Err r) z k = absurd (taken_refused _ _ k)

  -- not made: refused, by the same refusal
  pub one-refused : (a : Answer) → Answered a (take_many_of starts xs ys file (n / 64) mask) → ((w : ℕ) → a ≡ Taken w → ⊥) → Answered a (take_of starts xs ys file n)
  unfolding take_many_of
  one-refused a h never = go _ same-refusal h.same
    where
      go : (r : Result (Unit {0}) Refusal) → r ≡ take_refusal starts (length xs) (length ys) file n → a ≡ unless_refused r refused (Taken (answered_at starts xs ys file (n / 64) mask))
          → Answered a (take_of starts xs ys file n)
      go (Ok u) z k = absurd (never _ k)
      go (Err r) z k = answered _ _ (k ∙ take_refused_lem starts xs ys file n (Err r) z r refl)

  pub one_leaves : (us vs : List ℕ) → Leaves (after_take_many_of starts xs ys file (n / 64) mask) us vs → Leaves (after_take_of starts xs ys file n) us vs
  one_leaves us vs h = left-same _ _ us vs (ap (λ (b : ℕ). after_take_many_of starts xs ys file (n / 64) b) mask_is ∙ one-after) h

-- in whichever window
module _ (starts : Starts) (xs ys : List ℕ) (file d mask : ℕ) (b : Bool) (hb : b ≡ is_file starts.first (length xs) file) where
  pub answered-first : (w : ℕ) → b ≡ true → w ≡ taken_of starts.first xs file d mask → w ≡ answered_at starts xs ys file d mask
  answered-first w t e = let k : is_file starts.first (length xs) file ≡ true = sym hb ∙ t in simp k e

  pub answered-second : (w : ℕ) → b ≡ false → w ≡ taken_of starts.second ys file d mask → w ≡ answered_at starts xs ys file d mask
  answered-second w t e = let k : is_file starts.first (length xs) file ≡ false = sym hb ∙ t in simp k e

  pub taken-first : (after : List ℕ) → b ≡ true → after ≡ after_take_many starts.first xs file d mask → Leaves (many_taken_at starts xs ys file d mask) after ys
  taken-first after t e = changed-first starts xs ys file (λ start bytes. after_take_many start bytes file d mask) b hb after t e

  pub taken-second : (after : List ℕ) → b ≡ false → after ≡ after_take_many starts.second ys file d mask → Leaves (many_taken_at starts xs ys file d mask) xs after
  taken-second after t e = changed-second starts xs ys file (λ start bytes. after_take_many start bytes file d mask) b hb after t e

-- a flag is what it is of
pub file-is : (start len file : ℕ) (b : Bool) → b ≡ is_file start len file → b ≡ true → is_file start len file ≡ true
file-is start len file b h t = sym h ∙ t

pub ruleset lent_ways = (answered-first, answered-second, taken-first, taken-second, file-is, in_second)

module _ (starts : Starts) (xs ys : List ℕ) (file : ℕ) (r : Result (Unit {0}) Refusal) (h : r ≡ report_refusal starts (length xs) (length ys) file) (x : Report) where
  pub report_made : (u : Unit {0}) (e : List ℕ) → r ≡ Ok u → e ≡ part_of (lent starts xs ys) file 512 → x ≡ file_report e → x ≡ report_of starts xs ys file
  unfolding report_of
  report_made u e z he k = passed _ (λ why. refused_report (number_of why)) _ _ u (sym h ∙ z) (k ∙ ap file_report he)

  pub report_refused_lem : (why : Refusal) (n : ℕ) → r ≡ Err why → n ≡ number_of why → x ≡ refused_report n → x ≡ report_of starts xs ys file
  unfolding report_of
  report_refused_lem why n z k e = stopped _ (λ why. refused_report (number_of why)) _ _ why (sym h ∙ z) (e ∙ ap refused_report k)

pub report-room : (starts : Starts) (xs ys : List ℕ) (file : ℕ) (e : List ℕ) → is_lent_file starts (length xs) (length ys) file ≡ true
    → e ≡ part_of (lent starts xs ys) file 512 → 512 ≤ length e
report-room starts xs ys file e h he = subst (λ (k : List ℕ). 512 ≤ length k) (sym he) (file_bytes_lem starts xs ys file h)

pub ruleset report_ways = (report_made, report_refused_lem, report-lent, report_walkable, report-room)
