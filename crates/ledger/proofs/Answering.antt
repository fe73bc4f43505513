-- One call on any bytes: when it is answered 2, 5 or 6, which bytes it changes, and what notice it gives. Assumes nothing.
use Prim.Native.Nat.{ℕ, ◌/◌, ◌<◌}
use mathlib.Core.Path.{◌≡◌, refl, sym, ap, ◌∙◌}
use mathlib.Core.Logic.{◌↔◌}
use mathlib.Core.Bool.{Bool, true, false, not, ◌&&◌}
use mathlib.Core.List.{List, []}
use native.Mathlib.Omega.{arith}
use borrow.Author.Tests.{eq-eqb, ltb-false}
use lib.Dec.{eqb, ltb}
use lib.ListN.{length}
use Rattle.std.specs.Prelude.{Result, Ok, Err}
use Rattle.memory.specs.Choice.{pick}
use Rattle.memory.specs.declared.Starts.{Starts}
use Rattle.memory.specs.Window.{Lent, memory}
use Rattle.memory.specs.Walk.{run}
use Rattle.memory.proofs.Truth.{no_way}
use Rattle.message.specs.declared.Destination.{Destination}
use Rattle.refusal.specs.declared.Refusal.{Refusal}
use Rattle.refusal.specs.declared.Refusal.TheVariants.{BadWindows, FileOutside, NoFile, BadIdentity, Overlap, FileOverTables}
use Rattle.refusal.specs.Checks.{unless_refused}
use Rattle.iommu_refusals.specs.declared.DeviceRequest.{DeviceRequest}
use Rattle.iommu_translation.specs.declared.Recording.{Recording}
use Rattle.iommu_translation.specs.declared.Outcome.{Outcome}
use Rattle.iommu_translation.specs.Translate.{OutcomeFound}
use Rattle.iommu_files.specs.declared.Answer.{Answer}
use Rattle.iommu_files.specs.declared.Answer.TheVariants.{Translated, Redirected, Stored, Discarded, Fault, Refused, Taken}
use Rattle.iommu_files.specs.Answers.{numbers, numbers_of, refused}
use Rattle.iommu_refusals.specs.Refusals.{bad_windows, overlap, is_lent_file, request_refusal, take_many_refusal}
use Rattle.iommu_translation.specs.Translate.{translate_of}
use Rattle.iommu.specs.Request.{identity_of, storable, over_tables, finish, request_of}
use Rattle.iommu_files.specs.Files.{pending_at, answered_at, take_of, take_many_of}
use Rattle.iommu_files.proofs.Files.{take_made, many_made, same-refusal}
use Rattle.iommu.proofs.Requests.{record_stores, record_low, request_finishes}
use Rattle.iommu_files.specs.declared.Numbers.{Numbers}
use Rattle.iommu.specs.Operations.{Op, request, take, take_many, starts_of, settings, answer_of}
use Rattle.ledger.specs.Ledger.{store, nothing, op_event}
use Rattle.ledger.specs.Closes.{recording, Storing, take_refused, take_many_refused, Refuses, notices_of, notice_given}

-- 3: stored, exactly when
finish-stores : (starts : Starts) (n m : ℕ) (q : DeviceRequest) (value : ℕ) (d : Destination) (o : OutcomeFound) → finish starts n m q value o ≡ Stored d
    → (r : Recording) × (o ≡ Ok (Outcome.Recorded r)) × (r.destination ≡ d) × (storable q value ≡ true) × (is_lent_file starts n m r.destination.file ≡ true) × (over_tables r ≡ false)
unfolding finish
finish-stores starts n m q value d (Ok (Outcome.Translated a)) e = absurd (no_way (cc))
finish-stores starts n m q value d (Ok (Outcome.Redirected a)) e = absurd (no_way (cc))
finish-stores starts n m q value d (Err f) e = absurd (no_way (cc))
finish-stores starts n m q value d (Ok (Outcome.Recorded r)) e =
    let g = go (storable q value) (is_lent_file starts n m r.destination.file) (over_tables r) refl refl refl e in
    (r, refl, g.0, g.1, g.2, g.3)
  where
    go : (s f v : Bool) → storable q value ≡ s → is_lent_file starts n m r.destination.file ≡ f → over_tables r ≡ v
        → pick s (unless_refused (pick (not f) (Err FileOutside) (pick v (Err FileOverTables) (Ok tt))) refused (Stored r.destination)) Discarded ≡ Stored d
        → (r.destination ≡ d) × (storable q value ≡ true) × (is_lent_file starts n m r.destination.file ≡ true) × (over_tables r ≡ false)
    go true true false h k o z = (cc, h, k, o)
    go true true true h k o z = absurd (no_way (cc))
    go true false v h k o z = absurd (no_way (cc))
    go false f v h k o z = absurd (no_way (cc))

-- what checks that refuse nothing say of the windows
pub windows-apart : (b v : Bool) (rest : Result (Unit {0}) Refusal) → ◌≡◌ {A = Result (Unit {0}) Refusal} (pick b (Err BadWindows) (pick v (Err Overlap) rest)) (Ok tt)
    → (v ≡ false) × (rest ≡ Ok tt)
windows-apart true v rest e = absurd (no_way cc)
windows-apart false true rest e = absurd (no_way cc)
windows-apart false false rest e = (refl, e)

module _ (l : Lent) where
  abbrev pub starts : Starts
  starts = starts_of l

  abbrev pub xs : List ℕ
  xs = l.first.bytes

  abbrev pub ys : List ℕ
  ys = l.second.bytes

  -- the windows share no byte
  abbrev pub Apart : Type 0
  Apart = overlap starts (length xs) (length ys) ≡ false

  module _ (mode root : ℕ) (q : DeviceRequest) (value : ℕ) (d : Destination) where
    pub stored-storing : request_of (settings l mode root) xs ys q value ≡ Stored d → Storing l mode root q value d
    unfolding request_of
    stored-storing e = go (request_refusal (settings l mode root) (length xs) (length ys) q) refl e
      where
        go : (r : Result (Unit {0}) Refusal) → request_refusal (settings l mode root) (length xs) (length ys) q ≡ r
            → unless_refused r refused (finish starts (length xs) (length ys) q value (run (memory l) (translate_of (settings l mode root) q))) ≡ Stored d
            → Storing l mode root q value d
        go (Ok tt) h z =
            let f = finish-stores starts (length xs) (length ys) q value d _ z in
            let r = f.0 in
            let w = f.2 in
            record {
              context = r.context;
              entry = r.entry;
              unrefused = h;
              named = f.1 ∙ ap (λ (k : Destination). Ok (Outcome.Recorded (recording k r.context r.entry))) w;
              storing = f.3;
              within = (rw w at f.4);
              clear = ap (λ (k : Destination). over_tables (recording k r.context r.entry)) (sym w) ∙ f.5;
            }
        go (Err r) h z = absurd (no_way (cc))

    pub storing-stored : Storing l mode root q value d → request_of (settings l mode root) xs ys q value ≡ Stored d
    storing-stored s =
        let r = recording d s.context s.entry in
        sym (request_finishes (settings l mode root) xs ys q value (Ok tt) (sym s.unrefused) tt refl (Ok (Outcome.Recorded r)) (sym s.named)
        (Ok (Outcome.Recorded r)) (Stored d) refl
        (record_stores starts xs ys q value (identity_of q value) r true refl (sym s.storing) refl false (sym s.clear) true (sym s.within) refl refl))

    pub stored_low : Storing l mode root q value d → identity_of q value < 2048
    stored_low s = record_low q (identity_of q value) true (sym s.storing) refl

    pub storing-apart : Storing l mode root q value d → Apart
    unfolding request_refusal
    storing-apart s = (windows-apart (bad_windows starts (length xs) (length ys)) (overlap starts (length xs) (length ys)) _ s.unrefused).0

  -- 4: takes
  module _ (file d : ℕ) where
    pub many-passed : take_many_refused l file d ≡ Ok tt → Apart × (is_lent_file starts (length xs) (length ys) file ≡ true) × (d < 32)
    unfolding take_many_refusal
    many-passed e =
        let w = windows-apart (bad_windows starts (length xs) (length ys)) (overlap starts (length xs) (length ys)) _ e in
        let p = go (is_lent_file starts (length xs) (length ys) file) (ltb 31 d) refl refl w.1 in
        (w.0, p.0, p.1)
      where
        go : (f k : Bool) → is_lent_file starts (length xs) (length ys) file ≡ f → ltb 31 d ≡ k
            → ◌≡◌ {A = Result (Unit {0}) Refusal} (pick (not f) (Err NoFile) (pick k (Err BadIdentity) (Ok tt))) (Ok tt)
            → (is_lent_file starts (length xs) (length ys) file ≡ true) × (d < 32)
        go false k h j z = absurd (no_way cc)
        go true true h j z = absurd (no_way cc)
        go true false h j z = (h, omega (arith, ltb-false 31 d j))

    pub many-taken : (mask : ℕ) → take_many_refused l file d ≡ Ok tt → take_many_of starts xs ys file d mask ≡ Taken (answered_at starts xs ys file d mask)
    many-taken mask z = sym (many_made starts xs ys file d mask (Ok tt) (sym z) tt refl _ refl)

  module _ (file n : ℕ) where
    pub take-passed : take_refused l file n ≡ Ok tt → Apart × (is_lent_file starts (length xs) (length ys) file ≡ true) × (n < 2048)
    take-passed e =
        let p = many-passed file (n / 64) (same-refusal starts xs ys file n ∙ e) in
        (p.0, p.1, omega (arith, p.2))

    pub take-taken : take_refused l file n ≡ Ok tt → take_of starts xs ys file n ≡ Taken (pending_at starts xs ys file n)
    take-taken z = sym (take_made starts xs ys file n (Ok tt) (sym z) tt refl _ refl)

-- an answer is told by its numbers
same-destination : (d e : Destination) → d.file ≡ e.file → d.notice ≡ e.notice → d.number ≡ e.number → d ≡ e
same-destination d e p q r =
    ap (λ (x : ℕ). record { file = x; notice = d.notice; number = d.number }) p
    ∙ ap (λ (x : ℕ). record { file = e.file; notice = x; number = d.number }) q
    ∙ ap (λ (x : ℕ). record { file = e.file; notice = e.notice; number = x }) r

abbrev kind_of : Numbers → ℕ
kind_of a = a.kind

abbrev first_of : Numbers → ℕ
first_of a = a.first

pub told-stored : (a : Answer) (d : Destination) → numbers_of a ≡ numbers_of (Stored d) → a ≡ Stored d
told-stored (Stored e) d h = ap Stored (same-destination e d (ap first_of h) (ap (λ (x : Numbers). x.second) h) (ap (λ (x : Numbers). x.third) h))
told-stored (Translated a) d h = absurd (omega (arith, ap kind_of h))
told-stored (Redirected a) d h = absurd (omega (arith, ap kind_of h))
told-stored Discarded d h = absurd (omega (arith, ap kind_of h))
told-stored (Fault f) d h = absurd (omega (arith, ap kind_of h))
told-stored (Refused r) d h = absurd (omega (arith, ap kind_of h))
told-stored (Taken w) d h = absurd (omega (arith, ap kind_of h))

pub told-refused : (a : Answer) (r : ℕ) → numbers_of a ≡ numbers_of (Refused r) → a ≡ Refused r
told-refused (Refused k) r h = ap Refused (ap first_of h)
told-refused (Stored e) r h = absurd (omega (arith, ap kind_of h))
told-refused (Translated a) r h = absurd (omega (arith, ap kind_of h))
told-refused (Redirected a) r h = absurd (omega (arith, ap kind_of h))
told-refused Discarded r h = absurd (omega (arith, ap kind_of h))
told-refused (Fault f) r h = absurd (omega (arith, ap kind_of h))
told-refused (Taken w) r h = absurd (omega (arith, ap kind_of h))

-- a request is answered 2 exactly when it is stored
pub stored_iff : (l : Lent) (mode root : ℕ) (q : DeviceRequest) (value : ℕ) (d : Destination)
    → (numbers_of (answer_of l (request mode root q value)) ≡ numbers_of (Stored d)) ↔ Storing l mode root q value d
stored_iff l mode root q value d =
    (λ e. stored-storing l mode root q value d (told-stored _ d e), λ s. ap numbers_of (storing-stored l mode root q value d s))

-- a take is refused exactly when a check refuses it
refused-by : (k : Result (Unit {0}) Refusal) (v r : ℕ) → (numbers_of (unless_refused k refused (Taken v)) ≡ numbers 5 r 0 0) ↔ Refuses k r
refused-by k v r = (there k, λ h. ap (λ (c : Result (Unit {0}) Refusal). numbers_of (unless_refused c refused (Taken v))) h.1 ∙ ap (λ (n : ℕ). numbers 5 n 0 0) h.2)
  where
    there : (c : Result (Unit {0}) Refusal) → numbers_of (unless_refused c refused (Taken v)) ≡ numbers 5 r 0 0 → Refuses c r
    there (Ok u) e = absurd (omega (arith, ap kind_of e))
    there (Err why) e = (why, refl, ap first_of e)

pub refused-told : (l : Lent) (file n r : ℕ) → (numbers_of (answer_of l (take file n)) ≡ numbers 5 r 0 0) ↔ Refuses (take_refused l file n) r
unfolding take_of
refused-told l file n r = refused-by _ _ r

pub many-refused-told : (l : Lent) (file d mask r : ℕ)
    → (numbers_of (answer_of l (take_many file d mask)) ≡ numbers 5 r 0 0) ↔ Refuses (take_many_refused l file d) r
unfolding take_many_of
many-refused-told l file d mask r = refused-by _ _ r

-- the notices
pub given : (a : Numbers) (d : Destination) → a ≡ numbers_of (Stored d) → notices_of a ≡ notice_given d
given a d e = rw e

own : (x y : ℕ) → pick (eqb x x && eqb y y) store nothing ≡ store
own x y = rw (eq-eqb x x refl, eq-eqb y y refl)

quiet : (r : Result (Unit {0}) Refusal) (v : ℕ) → notices_of (numbers_of (unless_refused r refused (Taken v))) ≡ []
quiet (Ok u) v = refl
quiet (Err r) v = refl

pub no-notice : (l : Lent) (o : Op) → ((file n : ℕ) → op_event file n o (numbers_of (answer_of l o)) ≡ store → ⊥) → notices_of (numbers_of (answer_of l o)) ≡ []
unfolding take_of take_many_of
no-notice l (request mode root q value) k = go (answer_of l (request mode root q value)) k
  where
    go : (a : Answer) → ((file n : ℕ) → op_event file n (request mode root q value) (numbers_of a) ≡ store → ⊥) → notices_of (numbers_of a) ≡ []
    go (Stored d) h = absurd (h d.file (identity_of q value) (own d.file (identity_of q value)))
    go (Translated a) h = refl
    go (Redirected a) h = refl
    go Discarded h = refl
    go (Fault f) h = refl
    go (Refused r) h = refl
    go (Taken w) h = refl
no-notice l (take f i) h = quiet (take_refused l f i) _
no-notice l (take_many f d mask) h = quiet (take_many_refused l f d) _
