-- What becomes of what the tables say, by the tests that the code makes. Assumes nothing.
use Prim.Native.Nat.{ℕ, ◌*◌, ◌/◌, ◌%◌, ◌<◌}
use mathlib.Core.Bool.{Bool, true, false, ◌&&◌, ◌||◌, not}
use mathlib.Core.List.{List}
use mathlib.Core.Path.{◌≡◌, refl, sym, ap, subst, ◌∙◌}
use native.Mathlib.Omega.{arith}
use lib.Dec.{eqb, leb}
use lib.ListN.{length}
use Rattle.std.specs.Prelude.{Result, Ok, Err}
use borrow.Author.Tests.{eq-eqb, ne_eqb, leb-true}
use Rattle.memory.specs.declared.Starts.{Starts}
use Rattle.memory.specs.Window.{inside, lent, Leaves, memory}
use Rattle.memory.specs.Choice.{pick}
use Rattle.memory.specs.Walk.{run}
use Rattle.causes.specs.declared.FaultInfo.{FaultInfo}
use Rattle.interrupt_file.specs.File.{is_file, after_store}
use Rattle.refusal.specs.declared.Refusal.{Refusal}
use Rattle.refusal.specs.declared.Refusal.TheVariants.{FileOutside, FileOverTables}
use Rattle.refusal.specs.Refusal.{number_of}
use Rattle.refusal.specs.Checks.{unless_refused}
use Rattle.iommu_refusals.specs.declared.Settings.{Settings}
use Rattle.iommu_refusals.specs.declared.DeviceRequest.{DeviceRequest}
use Rattle.iommu_translation.specs.declared.Recording.{Recording}
use Rattle.iommu_translation.specs.declared.Outcome.{Outcome}
use Rattle.iommu_translation.specs.Translate.{OutcomeFound}
use Rattle.iommu_files.specs.declared.Answer.{Answer}
use Rattle.iommu_files.specs.declared.Answer.TheVariants.{Stored, Discarded, Refused}
use Rattle.iommu_refusals.specs.Refusals.{is_lent_file, request_refusal}
use Rattle.iommu_translation.specs.Translate.{translate_of}
use Rattle.causes.specs.Causes.{is_write}
use Rattle.iommu.specs.Request.{reversed, identity_of, storable_as, over_tables, finish, stored_at, stored_by, request_of, after_request}
use Rattle.iommu_files.specs.Answers.{refused}
use Rattle.iommu_files.proofs.Answers.{answered}
use Rattle.refusal.proofs.Checks.{passed, stopped}
use Rattle.iommu_refusals.proofs.Bounds.{accepted-mode, accepted-root, accepted_walkable}
use Rattle.iommu.specs.Code.{stored_if}
use Rattle.iommu_files.proofs.Files.{changed-first, changed-second, unchanged, left-same, file-is}

-- the identity
pub identity-reversed : (q : DeviceRequest) (d r : ℕ) → q.address % 4096 ≡ 4 → r ≡ reversed d → r ≡ identity_of q d
identity-reversed q d r h e = e ∙ simp h

pub identity-plain : (q : DeviceRequest) (d : ℕ) → (q.address % 4096 ≡ 4 → ⊥) → d ≡ identity_of q d
identity-plain q d h = simp (ne_eqb (q.address % 4096) 4 h)

-- storable
module _ (q : DeviceRequest) (n : ℕ) (w : Bool) (h : w ≡ is_write q.access) where
  pub not-write : w ≡ false → false ≡ storable_as q n
  unfolding storable_as
  not-write t = simp (← h, t)

  pub not-four : w ≡ true → (q.length ≡ 4 → ⊥) → false ≡ storable_as q n
  unfolding storable_as
  not-four t e = simp (← h, t, ne_eqb q.length 4 e)

  pub four-write : w ≡ true → q.length ≡ 4 → ((eqb (q.address % 4096) 0 || eqb (q.address % 4096) 4) && leb n 2047) ≡ storable_as q n
  unfolding storable_as
  four-write t e = simp (← h, t, eq-eqb q.length 4 e)

pub ruleset storable_ways = (not-write, not-four, four-write)

storable-low : (q : DeviceRequest) (n : ℕ) → storable_as q n ≡ true → n < 2048
unfolding storable_as
storable-low q n = go (is_write q.access) (eqb q.length 4) (eqb (q.address % 4096) 0 || eqb (q.address % 4096) 4) (leb n 2047) refl
  where
    go : (a b c e : Bool) → leb n 2047 ≡ e → (a && (b && (c && e))) ≡ true → n < 2048
    go true true true true h t = omega (arith, leb-true n 2047 h)
    go true true true false h t = let z : ◌≡◌ {A = ℕ} 0 1 = cc in omega arith
    go true true false e h t = let z : ◌≡◌ {A = ℕ} 0 1 = cc in omega arith
    go true false c e h t = let z : ◌≡◌ {A = ℕ} 0 1 = cc in omega arith
    go false b c e h t = let z : ◌≡◌ {A = ℕ} 0 1 = cc in omega arith

-- over tables
pub over_by : (r : Recording) (page : ℕ) (x y : Bool) → page ≡ r.destination.file / 4096 * 4096 → x ≡ inside page 4096 r.context 64 → y ≡ inside page 4096 r.entry 16
    → (x || y) ≡ over_tables r
over_by r page x y e h k = rw (h, k, e)

-- a message to a file
module _ (starts : Starts) (xs ys : List ℕ) (q : DeviceRequest) (value n : ℕ) (r : Recording) (s : Bool)
    (hn : n ≡ identity_of q value) (hs : s ≡ storable_as q n) where
  abbrev ended : Answer
  ended = finish starts (length xs) (length ys) q value (Ok (Outcome.Recorded r))

  pub record_discards : s ≡ false → Discarded ≡ ended
  unfolding finish
  record_discards t = simp (← hn, ← hs, t)

  module _ (t : s ≡ true) where
    abbrev held : Bool
    held = is_lent_file starts (length xs) (length ys) r.destination.file

    pub record_outside : (f : Bool) (k : ℕ) → f ≡ held → f ≡ false → k ≡ number_of FileOutside → Refused k ≡ ended
    unfolding finish
    record_outside f k hf o e = simp (← hn, ← hs, t, ← hf, o, e)

    module _ (over : Bool) (hover : over ≡ over_tables r) where
      pub record_over : (k : Refusal) (j : ℕ) → over ≡ true → k ≡ pick held FileOverTables FileOutside → j ≡ number_of k → Refused j ≡ ended
      unfolding finish
      record_over k j o e z = simp (← hn, ← hs, t, ← hover, o, e, z) (go held)
        where
          go : (f : Bool) → refused (pick f FileOverTables FileOutside) ≡ unless_refused (pick (not f) (Err FileOutside) (Err FileOverTables)) refused (Stored r.destination)
          go true = refl
          go false = refl

      pub record_stores : (f : Bool) → f ≡ held → over ≡ false → f ≡ true → Stored r.destination ≡ ended
      unfolding finish
      record_stores f hf o h = simp (← hn, ← hs, t, ← hf, h, ← hover, o)

-- what is left after a store of identity k, where j is the message's
module _ (starts : Starts) (xs ys : List ℕ) (file k j : ℕ) (f : Bool) (us vs : List ℕ) (h : Leaves (stored_if f starts xs ys file k) us vs) where
  pub stored-left : f ≡ true → k ≡ j → Leaves (stored_at starts xs ys file j) us vs
  stored-left t e = left-same (stored_if f starts xs ys file k) (stored_at starts xs ys file j) us vs (ap (λ (g : Bool). stored_if g starts xs ys file k) t ∙ ap (stored_at starts xs ys file) e) h

  pub kept-left : f ≡ false → Leaves (lent starts xs ys) us vs
  kept-left t = left-same (stored_if f starts xs ys file k) (lent starts xs ys) us vs (ap (λ (g : Bool). stored_if g starts xs ys file k) t) h

-- a store in whichever window: b and g say whether each holds the file
module _ (starts : Starts) (xs ys : List ℕ) (file n : ℕ) (b : Bool) (hb : b ≡ is_file starts.first (length xs) file)
    (us : List ℕ) (hu : us ≡ pick b (after_store starts.first xs file n) xs) where
  abbrev mark : ℕ → List ℕ → List ℕ
  mark start bytes = after_store start bytes file n

  pub lent-first : b ≡ true → true ≡ is_lent_file starts (length xs) (length ys) file
  lent-first t = simp (← hb, t)

  pub stored-first : b ≡ true → Leaves (stored_if true starts xs ys file n) us ys
  stored-first t =
      changed-first starts xs ys file mark b hb us t (hu ∙ ap (λ (c : Bool). pick c (after_store starts.first xs file n) xs) t)

  module _ (o : b ≡ false) (g : Bool) (hg : g ≡ is_file starts.second (length ys) file) (vs : List ℕ)
      (hv : vs ≡ pick g (after_store starts.second ys file n) ys) where
    same : us ≡ xs
    same = hu ∙ ap (λ (c : Bool). pick c (after_store starts.first xs file n) xs) o

    pub lent-second : g ≡ is_lent_file starts (length xs) (length ys) file
    lent-second = simp (← hb, o) hg

    pub stored-second : Leaves (stored_if g starts xs ys file n) us vs
    stored-second = subst (λ (k : List ℕ). Leaves (stored_if g starts xs ys file n) k vs) (sym same) (go g hv)
      where
        go : (c : Bool) → vs ≡ pick c (after_store starts.second ys file n) ys → Leaves (stored_if c starts xs ys file n) xs vs
        go true e = changed-second starts xs ys file mark b hb vs o e
        go false e = record { of_first = refl; of_second = e }

pub told : (b c r : Bool) → b ≡ c → b ≡ r → r ≡ c
told b c r h t = sym t ∙ h

pub ruleset store_ways = (told, lent-first, lent-second, stored-first, stored-second, file-is)

pub record_low : (q : DeviceRequest) (n : ℕ) (s : Bool) → s ≡ storable_as q n → s ≡ true → n < 2048
record_low q n s h t = storable-low q n (sym h ∙ t)

pub ruleset record_ways = (record_discards, record_over, record_stores, record_outside, stored-left, kept-left, unchanged, record_low)

-- the whole request
module _ (s : Settings) (xs ys : List ℕ) (q : DeviceRequest) (value : ℕ) (r : Result (Unit {0}) Refusal) (hr : r ≡ request_refusal s (length xs) (length ys) q) where
  abbrev answer : Answer
  answer = request_of s xs ys q value

  -- nothing is changed by an answer that stores nothing
  kept : (a : Answer) → lent s.starts xs ys ≡ stored_by s.starts xs ys q value a → a ≡ answer → Leaves (after_request s xs ys q value) xs ys
  unfolding after_request
  kept a e h =
      left-same (lent s.starts xs ys) (stored_by s.starts xs ys q value answer) xs ys (e ∙ ap (stored_by s.starts xs ys q value) h)
      (unchanged s.starts xs ys)

  pub request-refused : (why : Refusal) (k : ℕ) → r ≡ Err why → k ≡ number_of why → Refused k ≡ answer
  unfolding request_of
  request-refused why k z e = stopped _ refused _ _ why (sym hr ∙ z) (ap Refused e)

  pub refused-bytes : (why : Refusal) → r ≡ Err why → Leaves (after_request s xs ys q value) xs ys
  refused-bytes why z = kept (refused why) refl (request-refused why (number_of why) z refl)

  module _ (u : Unit {0}) (z : r ≡ Ok u) (o : OutcomeFound) (ho : o ≡ run (memory (lent s.starts xs ys)) (translate_of s q)) where
    abbrev ends : OutcomeFound → Answer
    ends p = finish s.starts (length xs) (length ys) q value p

    -- by the answer, so that whatever is done with one shows at its case
    pub request_finishes : (p : OutcomeFound) (a : Answer) → o ≡ p → a ≡ ends p → a ≡ answer
    unfolding request_of
    request_finishes p (Answer.Translated k) e h = passed _ refused _ _ u (sym hr ∙ z) (rw (← ho, e, ← h) refl)
    request_finishes p (Answer.Redirected k) e h = passed _ refused _ _ u (sym hr ∙ z) (rw (← ho, e, ← h) refl)
    request_finishes p (Stored n) e h = passed _ refused _ _ u (sym hr ∙ z) (rw (← ho, e, ← h) refl)
    request_finishes p Discarded e h = passed _ refused _ _ u (sym hr ∙ z) (rw (← ho, e, ← h) refl)
    request_finishes p (Answer.Fault k) e h = passed _ refused _ _ u (sym hr ∙ z) (rw (← ho, e, ← h) refl)
    request_finishes p (Refused k) e h = passed _ refused _ _ u (sym hr ∙ z) (rw (← ho, e, ← h) refl)
    request_finishes p (Answer.Taken k) e h = passed _ refused _ _ u (sym hr ∙ z) (rw (← ho, e, ← h) refl)

    -- an outcome that is no message to a file passes as it is, and changes nothing
    pub request-translates : (a : ℕ) → o ≡ Ok (Outcome.Translated a) → Answer.Translated a ≡ answer
    unfolding finish
    request-translates a e = request_finishes (Ok (Outcome.Translated a)) (Answer.Translated a) e refl

    pub request-redirects : (a : ℕ) → o ≡ Ok (Outcome.Redirected a) → Answer.Redirected a ≡ answer
    unfolding finish
    request-redirects a e = request_finishes (Ok (Outcome.Redirected a)) (Answer.Redirected a) e refl

    pub request_faults : (f : FaultInfo) → o ≡ Err f → Answer.Fault f ≡ answer
    unfolding finish
    request_faults f e = request_finishes (Err f) (Answer.Fault f) e refl

    pub translated-bytes : (a : ℕ) → o ≡ Ok (Outcome.Translated a) → Leaves (after_request s xs ys q value) xs ys
    translated-bytes a e = kept (Answer.Translated a) refl (request-translates a e)

    pub redirected-bytes : (a : ℕ) → o ≡ Ok (Outcome.Redirected a) → Leaves (after_request s xs ys q value) xs ys
    redirected-bytes a e = kept (Answer.Redirected a) refl (request-redirects a e)

    pub faulted-bytes : (f : FaultInfo) → o ≡ Err f → Leaves (after_request s xs ys q value) xs ys
    faulted-bytes f e = kept (Answer.Fault f) refl (request_faults f e)

    pub request-bytes : (p : OutcomeFound) (a : Answer) (us vs : List ℕ) → o ≡ p → a ≡ ends p
        → Leaves (stored_by s.starts xs ys q value a) us vs → Leaves (after_request s xs ys q value) us vs
    unfolding after_request
    request-bytes p a us vs e h k =
        left-same (stored_by s.starts xs ys q value a) (stored_by s.starts xs ys q value answer) us vs
        (ap (stored_by s.starts xs ys q value) (request_finishes p a e h)) k

pub ruleset request_ways = (answered, request-refused, refused-bytes, request_finishes, request-bytes, request-translates, request-redirects, request_faults, translated-bytes, redirected-bytes, faulted-bytes, accepted-mode, accepted-root, accepted_walkable)
