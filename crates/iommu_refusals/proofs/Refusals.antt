-- The checks before the walk, by the tests that the code makes. Assumes nothing.
use Prim.Native.Nat.{ℕ, zero, suc, ◌+◌, ◌-◌, ◌/◌, ◌%◌, ◌^◌, ◌<◌, ◌≤◌}
use mathlib.Core.Bool.{Bool, true, false, not, ◌&&◌, ◌||◌}
use mathlib.Core.Path.{◌≡◌, refl, sym, ap, ap₂, ◌∙◌}
use native.Mathlib.Omega.{arith}
use lib.Dec.{eqb, leb, ltb}
use Rattle.std.specs.Prelude.{Result, Ok, Err, None, Some}
use borrow.Author.Tests.{ne_eqb, eqb-true, eqb-false, lt-ltb, le-ltb, ltb-false, leb-true, leb-false}
use Rattle.memory.specs.Choice.{pick}
use Rattle.memory.specs.Code.{Paged, Walkable}
use Rattle.memory.specs.declared.Starts.{Starts}
use Rattle.memory.proofs.Truth.{true-false, no_way}
use Rattle.memory.proofs.Choices.{ltb-same}
use Rattle.directory_process.specs.Found.{ProcessId}
use Rattle.interrupt_file.specs.File.{is_file}
use Rattle.iommu_refusals.proofs.Overlap.{apart_words}
use Rattle.iommu_refusals.specs.declared.Settings.{Settings}
use Rattle.iommu_refusals.specs.declared.DeviceRequest.{DeviceRequest}
use Rattle.refusal.specs.declared.Refusal.{Refusal}
use Rattle.refusal.specs.declared.Refusal.TheVariants.{BadWindows, BadDirectory, BadDevice, BadProcess, NoProcess, BadLength, NoFile, BadIdentity, Overlap}
use Rattle.iommu_refusals.specs.Refusals.{bad_window, bad_windows, overlap, is_lent_file, bad_directory, bad_process, absent, bad_length, request_refusal, take_refusal, take_many_refusal, report_refusal}
use Rattle.iommu_refusals.specs.Code.{off_pages, too_large, window_refusal}

-- 2001: four tests joined, and two windows' ends
either : (a b c d x y : Bool) → (((a || b) || c) || d) ≡ true → true ≡ ((a || (b || x)) || (c || (d || y)))
either true b c d x y h = refl
either false true c d x y h = refl
either false false true d true y h = refl
either false false true d false y h = refl
either false false false true true y h = refl
either false false false true false y h = refl
either false false false false x y h = absurd (true-false (sym h))

neither : (a b c d x y : Bool) → (((a || b) || c) || d) ≡ false → (x || y) ≡ ((a || (b || x)) || (c || (d || y)))
neither false false false false x y h = refl
neither false false false true x y h = absurd (true-false h)
neither false false true d x y h = absurd (true-false h)
neither false true c d x y h = absurd (true-false h)
neither true b c d x y h = absurd (true-false h)

-- 2001: what is too large is too high
high : (start len : ℕ) → 2 ^ 56 < start + len → ltb (2 ^ 56) (start + len) ≡ true
high start len h = lt-ltb (2 ^ 56) (start + len) h

module _ (starts : Starts) (n m : ℕ) where
  abbrev off : ℕ → Bool
  off x = not (eqb (x % 4096) 0)

  bad-ends : (x y : Bool) → ltb (2 ^ 56) (starts.first + n) ≡ x → ltb (2 ^ 56) (starts.second + m) ≡ y → (x || y) ≡ true → true ≡ bad_windows starts n m
  unfolding bad_window
  bad-ends x y e f h = go (off starts.first) (off n) (off starts.second) (off m) x y h ∙ ap₂ (λ p q. (off starts.first || (off n || p)) || (off starts.second || (off m || q))) (sym e) (sym f)
    where
      go : (a b c d x y : Bool) → (x || y) ≡ true → true ≡ ((a || (b || x)) || (c || (d || y)))
      go true b c d x y h = refl
      go false true c d x y h = refl
      go false false c d true y h = refl
      go false false true d false true h = refl
      go false false false true false true h = refl
      go false false false false false true h = refl
      go false false c d false false h = absurd (true-false (sym h))

  large : too_large starts n m ≡ true → true ≡ bad_windows starts n m
  large h =
      go (leb (2 ^ 57) starts.first) (leb (2 ^ 57) n) (leb (2 ^ 57) starts.second) (leb (2 ^ 57) m) refl refl refl refl h
    where
      one : 2 ^ 56 < starts.first + n → true ≡ bad_windows starts n m
      one k = bad-ends true _ (high starts.first n k) refl refl

      two : 2 ^ 56 < starts.second + m → true ≡ bad_windows starts n m
      two k = bad-ends _ true refl (high starts.second m k) (or_true (ltb (2 ^ 56) (starts.first + n)))
        where
          or_true : (b : Bool) → (b || true) ≡ true
          or_true true = refl
          or_true false = refl

      go : (p q r s : Bool) → leb (2 ^ 57) starts.first ≡ p → leb (2 ^ 57) n ≡ q → leb (2 ^ 57) starts.second ≡ r → leb (2 ^ 57) m ≡ s → (((p || q) || r) || s) ≡ true → true ≡ bad_windows starts n m
      go true q r s e f g i z = one (let k = leb-true (2 ^ 57) starts.first e in omega arith)
      go false true r s e f g i z = one (let k = leb-true (2 ^ 57) n f in omega arith)
      go false false true s e f g i z = two (let k = leb-true (2 ^ 57) starts.second g in omega arith)
      go false false false true e f g i z = two (let k = leb-true (2 ^ 57) m i in omega arith)
      go false false false false e f g i z = absurd (true-false (sym z))

  -- the first test, of pages and of sizes
  module _ (a b : Bool) (ha : a ≡ off_pages starts n m) (hb : b ≡ too_large starts n m) where
    pub windows-off : (a || b) ≡ true → true ≡ bad_windows starts n m
    unfolding bad_window
    windows-off t = go a b ha hb t
      where
        go : (p q : Bool) → p ≡ off_pages starts n m → q ≡ too_large starts n m → (p || q) ≡ true → true ≡ bad_windows starts n m
        go true q e f z =
            either (off starts.first) (off n) (off starts.second) (off m) (ltb (2 ^ 56) (starts.first + n)) (ltb (2 ^ 56) (starts.second + m)) (sym e)
        go false true e f z = large (sym f)
        go false false e f z = absurd (true-false (sym z))

    module _ (t : (a || b) ≡ false) where
      both_false : (p q : Bool) → (p || q) ≡ false → (p ≡ false) × (q ≡ false)
      both_false false false z = (refl, refl)
      both_false false true z = absurd (true-false z)
      both_false true q z = absurd (true-false z)

      pub windows-high : (ltb 72057594037927936 (starts.first + n) || ltb 72057594037927936 (starts.second + m)) ≡ bad_windows starts n m
      unfolding bad_window
      windows-high =
          neither (off starts.first) (off n) (off starts.second) (off m) (ltb (2 ^ 56) (starts.first + n)) (ltb (2 ^ 56) (starts.second + m))
          (sym ha ∙ (both_false a b t).0)

      sums : (starts.first + n < 2 ^ 64) × (starts.second + m < 2 ^ 64)
      sums = go (leb (2 ^ 57) starts.first) (leb (2 ^ 57) n) (leb (2 ^ 57) starts.second) (leb (2 ^ 57) m) refl refl refl refl (sym hb ∙ (both_false a b t).1)
        where
          go : (p q r s : Bool) → leb (2 ^ 57) starts.first ≡ p → leb (2 ^ 57) n ≡ q → leb (2 ^ 57) starts.second ≡ r → leb (2 ^ 57) m ≡ s → (((p || q) || r) || s) ≡ false
              → (starts.first + n < 2 ^ 64) × (starts.second + m < 2 ^ 64)
          go false false false false e f g i z =
              let k = leb-false (2 ^ 57) starts.first e in
              let l = leb-false (2 ^ 57) n f in
              let u = leb-false (2 ^ 57) starts.second g in
              let v = leb-false (2 ^ 57) m i in
              (omega arith, omega arith)
          go false false false true e f g i z = absurd (true-false z)
          go false false true s e f g i z = absurd (true-false z)
          go false true r s e f g i z = absurd (true-false z)
          go true q r s e f g i z = absurd (true-false z)

      pub first-sum : starts.first + n < 2 ^ 64
      first-sum = sums.0

      pub second-sum : starts.second + m < 2 ^ 64
      second-sum = sums.1

pub ruleset window_ways = (windows-off, windows-high, first-sum, second-sum)

pos : (x : ℕ) → (x ≡ 0 → ⊥) → 0 < x
pos zero h = absurd (h refl)
pos (suc x) h = omega arith

-- 2011: by both starts and both ends
pub overlap-is : (starts : Starts) (n m : ℕ)
    → (((ltb starts.first (starts.first + n) && ltb starts.first (starts.second + m)) && ltb starts.second (starts.first + n)) && ltb starts.second (starts.second + m)) ≡ overlap starts n m
unfolding overlap
overlap-is starts n m = go (eqb n 0) (eqb m 0) refl refl
  where
    before : Bool
    before = ltb starts.first (starts.second + m)

    after : Bool
    after = ltb starts.second (starts.first + n)

    and_none : (p q r : Bool) → (((false && p) && q) && r) ≡ false
    and_none p q r = refl

    and_last : (p : Bool) → (p && false) ≡ false
    and_last true = refl
    and_last false = refl

    and_yes : (p q : Bool) → (((true && p) && q) && true) ≡ (p && q)
    and_yes true true = refl
    and_yes true false = refl
    and_yes false q = refl

    go : (p q : Bool) → eqb n 0 ≡ p → eqb m 0 ≡ q
        → (((ltb starts.first (starts.first + n) && before) && after) && ltb starts.second (starts.second + m)) ≡ (not p && (not q && (before && after)))
    go true q e f = let z = eqb-true n 0 e in simp (le-ltb starts.first (starts.first + n) (omega arith))
    go false true e f = let z = eqb-true m 0 f in simp (le-ltb starts.second (starts.second + m) (omega arith)) (and_last ((ltb starts.first (starts.first + n) && before) && after))
    go false false e f =
        let y = pos n (eqb-false n 0 e) in
        let z = pos m (eqb-false m 0 f) in
        simp (lt-ltb starts.first (starts.first + n) (omega arith), lt-ltb starts.second (starts.second + m) (omega arith)) (and_yes before after)

-- the checks that all calls begin with
module _ (starts : Starts) (n m : ℕ) (b : Bool) (hb : b ≡ bad_windows starts n m) where
  pub windows_bad : b ≡ true → Err BadWindows ≡ window_refusal starts n m
  unfolding window_refusal
  windows_bad t = simp (← hb, t)

  module _ (o : b ≡ false) (v : Bool) (hv : v ≡ overlap starts n m) where
    pub windows_overlap : v ≡ true → Err Overlap ≡ window_refusal starts n m
    unfolding window_refusal
    windows_overlap t = simp (← hb, o, ← hv, t)

    pub window-passes : v ≡ false → Ok tt ≡ window_refusal starts n m
    unfolding window_refusal
    window-passes t = simp (← hb, o, ← hv, t)

  -- what a walk may go through
  whole-pages : (p q r s x y : Bool) → eqb (starts.first % 4096) 0 ≡ p → eqb (n % 4096) 0 ≡ q → eqb (starts.second % 4096) 0 ≡ r → eqb (m % 4096) 0 ≡ s
      → ltb (2 ^ 56) (starts.first + n) ≡ x → ltb (2 ^ 56) (starts.second + m) ≡ y → ((not p || (not q || x)) || (not r || (not s || y))) ≡ false
      → Paged starts n m × (starts.first + n ≤ 2 ^ 56) × (starts.second + m ≤ 2 ^ 56)
  whole-pages true true true true false false e f g h i j z =
      ((eqb-true _ _ e, eqb-true _ _ f, eqb-true _ _ g, eqb-true _ _ h), ltb-false _ _ i, ltb-false _ _ j)
  whole-pages false q r s x y e f g h i j z = absurd (true-false z)
  whole-pages true false r s x y e f g h i j z = absurd (true-false z)
  whole-pages true true r s true y e f g h i j z = absurd (true-false z)
  whole-pages true true false s false y e f g h i j z = absurd (true-false z)
  whole-pages true true true false false y e f g h i j z = absurd (true-false z)
  whole-pages true true true true false true e f g h i j z = absurd (true-false z)

  good : b ≡ false → Paged starts n m × (starts.first + n ≤ 2 ^ 56) × (starts.second + m ≤ 2 ^ 56)
  unfolding bad_window
  good t = whole-pages _ _ _ _ _ _ refl refl refl refl refl refl (sym hb ∙ t)

  pub first_fits : b ≡ false → starts.first + n < 2 ^ 64
  first_fits t = let g = (good t).1 in omega arith

  pub second_fits : b ≡ false → starts.second + m < 2 ^ 64
  second_fits t = let g = (good t).2 in omega arith

  pub window_walkable : (v : Bool) → b ≡ false → v ≡ overlap starts n m → v ≡ false → Walkable starts n m
  window_walkable v t hv o =
      let g = good t in
      record {
        paged = g.0;
        first_end = let e = g.1 in omega arith;
        second_end = let e = g.2 in omega arith;
        apart = apart_words starts n m (sym hv ∙ o);
      }

pub ruleset windows_checks = (windows_bad, windows_overlap, window-passes, first_fits, second_fits, window_walkable)

-- what they say of both
module _ (starts : Starts) (n m : ℕ) (w : Result (Unit {0}) Refusal) (hw : w ≡ window_refusal starts n m) where
  -- their refusal is that of any list of checks that begins with them
  windows-first : (rest : Result (Unit {0}) Refusal) (r : Refusal) → w ≡ Err r
      → Err r ≡ pick (bad_windows starts n m) (Err BadWindows) (pick (overlap starts n m) (Err Overlap) rest)
  unfolding window_refusal
  windows-first rest r z = go (bad_windows starts n m) (overlap starts n m) (sym z ∙ hw)
    where
      go : (p q : Bool) → ◌≡◌ {A = Result (Unit {0}) Refusal} (Err r) (pick p (Err BadWindows) (pick q (Err Overlap) (Ok tt))) → Err r ≡ pick p (Err BadWindows) (pick q (Err Overlap) rest)
      go true q e = e
      go false true e = e
      go false false e = absurd (no_way cc)

  module _ (u : Unit {0}) (z : w ≡ Ok u) where
    windows-good : (bad_windows starts n m ≡ false) × (overlap starts n m ≡ false)
    unfolding window_refusal
    windows-good = go (bad_windows starts n m) (overlap starts n m) (sym z ∙ hw)
      where
        go : (p q : Bool) → ◌≡◌ {A = Result (Unit {0}) Refusal} (Ok u) (pick p (Err BadWindows) (pick q (Err Overlap) (Ok tt))) → (p ≡ false) × (q ≡ false)
        go true q e = absurd (no_way cc)
        go false true e = absurd (no_way cc)
        go false false e = (refl, refl)

-- a process's number and a length
pub process-is : (p : ProcessId) (n : ℕ) → p ≡ Some n → leb 1048576 n ≡ bad_process p
process-is p n e = sym (ap bad_process e)

pub length_none : (address len : ℕ) → len ≡ 0 → true ≡ bad_length address len
length_none address len h = simp h

pub length_some : (address len : ℕ) → (len ≡ 0 → ⊥) → ltb (4096 - address % 4096) len ≡ bad_length address len
length_some address len h =
    simp (ne_eqb len 0 h) (ltb-same (4096 - address % 4096) len 4096 (address % 4096 + len) (λ x. omega arith) (λ x. omega arith))

pub ruleset small_ways = (process-is, length_none, length_some)

unnamed-small : (s : Bool) (p : ProcessId) → (s && absent p) ≡ true → bad_process p ≡ false
unnamed-small s None e = refl
unnamed-small true (Some n) e = cc
unnamed-small false (Some n) e = cc

-- a request's checks in order: `bN` is the flag of the check whose refusal has the number 2000 + N
module _ (s : Settings) (n m : ℕ) (q : DeviceRequest) (w : Result (Unit {0}) Refusal) (hw : w ≡ window_refusal s.starts n m) where
  pub refused-windows : (r : Refusal) → w ≡ Err r → Err r ≡ request_refusal s n m q
  unfolding request_refusal
  refused-windows r z = windows-first s.starts n m w hw _ r z

  module _ (u : Unit {0}) (z : w ≡ Ok u) (b2 : Bool) (h2 : b2 ≡ bad_directory s.mode s.root) where
    pub refused_directory : b2 ≡ true → Err BadDirectory ≡ request_refusal s n m q
    unfolding request_refusal
    refused_directory t = let good = windows-good s.starts n m w hw u z in simp (good.0, good.1, ← h2, t)

    module _ (o2 : b2 ≡ false) (b3 : Bool) (h3 : b3 ≡ leb (2 ^ 24) q.device) where
      pub refused_device : b3 ≡ true → Err BadDevice ≡ request_refusal s n m q
      unfolding request_refusal
      refused_device t = let good = windows-good s.starts n m w hw u z in simp (good.0, good.1, ← h2, o2, ← h3, t)

      module _ (o3 : b3 ≡ false) where
        -- a process that is absent isn't one whose number is too large
        pub refused_unnamed : (b5 : Bool) → b5 ≡ (q.supervisor && absent q.process) → b5 ≡ true → Err NoProcess ≡ request_refusal s n m q
        unfolding request_refusal
        refused_unnamed b5 h5 t = let good = windows-good s.starts n m w hw u z in simp (good.0, good.1, ← h2, o2, ← h3, o3, unnamed-small q.supervisor q.process (sym h5 ∙ t), ← h5, t)

        module _ (b4 : Bool) (h4 : b4 ≡ bad_process q.process) where
          pub refused_process : b4 ≡ true → Err BadProcess ≡ request_refusal s n m q
          unfolding request_refusal
          refused_process t = let good = windows-good s.starts n m w hw u z in simp (good.0, good.1, ← h2, o2, ← h3, o3, ← h4, t)

          module _ (o4 : b4 ≡ false) (b5 : Bool) (h5 : b5 ≡ (q.supervisor && absent q.process)) (o5 : b5 ≡ false) (b6 : Bool) (h6 : b6 ≡ bad_length q.address q.length) where
            pub refused_length : b6 ≡ true → Err BadLength ≡ request_refusal s n m q
            unfolding request_refusal
            refused_length t = let good = windows-good s.starts n m w hw u z in simp (good.0, good.1, ← h2, o2, ← h3, o3, ← h4, o4, ← h5, o5, ← h6, t)

            pub not-refused : b6 ≡ false → Ok tt ≡ request_refusal s n m q
            unfolding request_refusal
            not-refused o6 = let good = windows-good s.starts n m w hw u z in simp (good.0, good.1, ← h2, o2, ← h3, o3, ← h4, o4, ← h5, o5, ← h6, o6)

accepted : (s : Settings) (b : Bool) → b ≡ bad_directory s.mode s.root → b ≡ false → (s.mode < 5) × (s.root < 2 ^ 44)
accepted s b h o = go (ltb 4 s.mode) (leb (2 ^ 44) s.root) refl refl (sym h ∙ o)
  where
    go : (m r : Bool) → ltb 4 s.mode ≡ m → leb (2 ^ 44) s.root ≡ r → (m || r) ≡ false → (s.mode < 5) × (s.root < 2 ^ 44)
    go true r e f z = let c : ◌≡◌ {A = ℕ} 0 1 = cc in omega arith
    go false true e f z = let c : ◌≡◌ {A = ℕ} 0 1 = cc in omega arith
    go false false e f z = (omega (arith, ltb-false 4 s.mode e), omega (arith, leb-false (2 ^ 44) s.root f))

pub checked_mode : (s : Settings) (b : Bool) → b ≡ bad_directory s.mode s.root → b ≡ false → s.mode < 5
checked_mode s b h o = (accepted s b h o).0

pub checked_root : (s : Settings) (b : Bool) → b ≡ bad_directory s.mode s.root → b ≡ false → s.root < 2 ^ 44
checked_root s b h o = (accepted s b h o).1

pub ruleset request_checks =
    (refused_directory, refused_device, refused_process, refused_unnamed, refused_length, not-refused, checked_mode, checked_root)

-- a take's checks in order
module _ (starts : Starts) (n m file d : ℕ) (w : Result (Unit {0}) Refusal) (hw : w ≡ window_refusal starts n m) where
  pub take_windows : (r : Refusal) → w ≡ Err r → Err r ≡ take_many_refusal starts n m file d
  unfolding take_many_refusal
  take_windows r z = windows-first starts n m w hw _ r z

  module _ (u : Unit {0}) (z : w ≡ Ok u) (f : Bool) (hf : f ≡ is_lent_file starts n m file) where
    pub take_no_file : f ≡ false → Err NoFile ≡ take_many_refusal starts n m file d
    unfolding take_many_refusal
    take_no_file t = let good = windows-good starts n m w hw u z in simp (good.0, good.1, ← hf, t)

    pub take_identity : f ≡ true → 31 < d → Err BadIdentity ≡ take_many_refusal starts n m file d
    unfolding take_many_refusal
    take_identity t k = let good = windows-good starts n m w hw u z in simp (good.0, good.1, ← hf, t, lt-ltb 31 d k)

    pub take-passes : f ≡ true → d ≤ 31 → Ok tt ≡ take_many_refusal starts n m file d
    unfolding take_many_refusal
    take-passes t k = let good = windows-good starts n m w hw u z in simp (good.0, good.1, ← hf, t, le-ltb 31 d k)

-- a report's
module _ (starts : Starts) (n m file : ℕ) (w : Result (Unit {0}) Refusal) (hw : w ≡ window_refusal starts n m) where
  pub report-windows : (r : Refusal) → w ≡ Err r → Err r ≡ report_refusal starts n m file
  unfolding report_refusal
  report-windows r z = windows-first starts n m w hw _ r z

  module _ (u : Unit {0}) (z : w ≡ Ok u) (f : Bool) (hf : f ≡ is_lent_file starts n m file) where
    pub report_no_file : f ≡ false → Err NoFile ≡ report_refusal starts n m file
    unfolding report_refusal
    report_no_file t = let good = windows-good starts n m w hw u z in simp (good.0, good.1, ← hf, t)

    pub report-passes : f ≡ true → Ok tt ≡ report_refusal starts n m file
    unfolding report_refusal
    report-passes t = let good = windows-good starts n m w hw u z in simp (good.0, good.1, ← hf, t)

pub is-a-file : (starts : Starts) (n m file : ℕ) (f : Bool) → f ≡ is_lent_file starts n m file → f ≡ true → is_lent_file starts n m file ≡ true
is-a-file starts n m file f h t = sym h ∙ t

pub is-doubleword : (d : ℕ) → d ≤ 31 → d < 32
is-doubleword d h = omega arith

-- a take of one identity is refused as a take of many of its doubleword is
pub one-refusal : (starts : Starts) (n m file i : ℕ) → take_many_refusal starts n m file (i / 64) ≡ take_refusal starts n m file i
unfolding take_many_refusal take_refusal
one-refusal starts n m file i = rw (ltb-same 31 (i / 64) 2047 i (λ h. omega arith) (λ h. omega arith))

-- a file in the first window, or else in the second
module _ (starts : Starts) (n m file : ℕ) (a : Bool) (ha : a ≡ is_file starts.first n file) where
  pub file-first : a ≡ true → true ≡ is_lent_file starts n m file
  file-first t = simp (← ha, t)

  pub file-second : (b : Bool) → a ≡ false → b ≡ is_file starts.second m file → b ≡ is_lent_file starts n m file
  file-second b t hb = simp (← ha, t) hb

pub ruleset lent-file_ways = (file-first, file-second)

pub ruleset file_checks =
    (take_no_file, take_identity, take-passes, report_no_file, report-passes, is-a-file, is-doubleword)
