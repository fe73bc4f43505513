-- Refusal 2012, exactly when: by page numbers, and whatever 2007 says. Assumes nothing.
use Prim.Native.Nat.{ℕ, ◌+◌, ◌-◌, ◌*◌, ◌/◌, ◌%◌, ◌^◌, ◌≤◌, ◌<◌}
use mathlib.Core.Bool.{Bool, true, false, ◌&&◌, ◌||◌, not}
use mathlib.Core.List.{List}
use mathlib.Core.Logic.{◌↔◌}
use mathlib.Core.Path.{◌≡◌, refl, sym, ap, ap₂, ◌∙◌}
use native.Mathlib.Omega.{arith}
use lib.Dec.{eqb, leb}
use lib.ListN.{length}
use Rattle.std.specs.Prelude.{Result, Ok, Err, None, Some}
use borrow.Author.Tests.{eq-eqb, ne_eqb, eqb-true, le-leb, leb-true, leb-false}
use Rattle.memory.specs.Choice.{pick}
use Rattle.memory.specs.declared.Starts.{Starts}
use Rattle.memory.specs.Load.{Load}
use Rattle.memory.specs.Window.{inside, doubleword, lent, memory}
use Rattle.memory.specs.Code.{Paged}
use Rattle.memory.specs.Walk.{run}
use Rattle.memory.proofs.Truth.{no_way, and_true}
use Rattle.memory.proofs.Walks.{Read}
use Rattle.interrupt_file.specs.File.{is_file}
use Rattle.refusal.specs.declared.Refusal.{Refusal}
use Rattle.refusal.specs.declared.Refusal.TheVariants.{BadWindows, BadDirectory, BadDevice, BadProcess, NoProcess, BadLength, FileOutside, NoFile, BadIdentity, UnknownNumber, Overlap, FileOverTables, BadQueue, NotInDomain}
use Rattle.refusal.specs.Refusal.{number_of}
use Rattle.refusal.specs.Checks.{unless_refused}
use Rattle.iommu_refusals.specs.declared.Settings.{Settings}
use Rattle.iommu_refusals.specs.declared.DeviceRequest.{DeviceRequest}
use Rattle.iommu_refusals.specs.Refusals.{bad_windows, overlap, bad_directory, bad_process, absent, bad_length, is_lent_file, request_refusal}
use Rattle.iommu_refusals.proofs.Refusals.{window_walkable}
use Rattle.iommu_translation.specs.declared.Recording.{Recording}
use Rattle.iommu_translation.specs.declared.Outcome.{Outcome}
use Rattle.iommu_translation.specs.Translate.{OutcomeFound}
use Rattle.iommu_translation.specs.declared.Outcome.TheVariants.{Recorded}
use Rattle.iommu_translation.specs.Translate.{translate_of}
use Rattle.iommu_translation.proofs.Placed.{Placed, recorded-placed}
use Rattle.iommu_files.specs.declared.Answer.{Answer}
use Rattle.iommu_files.specs.declared.Answer.TheVariants.{Stored, Discarded, Refused}
use Rattle.iommu_files.specs.Answers.{refused}
use Rattle.iommu.specs.Request.{storable, page_holds, over_tables, finish, request_of}

-- an answer's number of a refusal, and `other` where it has none
why_of : ℕ → Answer → ℕ
why_of other (Refused r) = r
why_of other (Answer.Translated a) = other
why_of other (Answer.Redirected a) = other
why_of other (Stored e) = other
why_of other Discarded = other
why_of other (Answer.Fault f) = other
why_of other (Answer.Taken w) = other

same_refusal : (r k : ℕ) → Refused r ≡ Refused k → r ≡ k
unfolding why_of
same_refusal r k e = ap (why_of r) e

not_2007 : Refused 2007 ≡ Refused 2012 → ⊥
not_2007 e = let z = same_refusal 2007 2012 e in omega arith

-- the refusal with the number 2012
over_number : (k : Refusal) → number_of k ≡ 2012 → k ≡ FileOverTables
over_number BadWindows e = absurd (omega arith)
over_number BadDirectory e = absurd (omega arith)
over_number BadDevice e = absurd (omega arith)
over_number BadProcess e = absurd (omega arith)
over_number NoProcess e = absurd (omega arith)
over_number BadLength e = absurd (omega arith)
over_number FileOutside e = absurd (omega arith)
over_number NoFile e = absurd (omega arith)
over_number BadIdentity e = absurd (omega arith)
over_number UnknownNumber e = absurd (omega arith)
over_number Overlap e = absurd (omega arith)
over_number FileOverTables e = refl
over_number BadQueue e = absurd (omega arith)
over_number NotInDomain e = absurd (omega arith)

-- bytes that don't go beyond the end of their page are held by the page of their number, and by no other
one-page : (file a size : ℕ) → 0 < size → a % 4096 + size ≤ 4096 → page_holds file a size ≡ eqb (file / 4096) (a / 4096)
one-page file a size some room = go (leb (file / 4096 * 4096) a) (leb (a + size) (file / 4096 * 4096 + 4096)) refl refl
  where
    go : (x y : Bool) → leb (file / 4096 * 4096) a ≡ x → leb (a + size) (file / 4096 * 4096 + 4096) ≡ y → (x && y) ≡ eqb (file / 4096) (a / 4096)
    go true true h k =
        sym (eq-eqb (file / 4096) (a / 4096) (omega (arith, leb-true (file / 4096 * 4096) a h, leb-true (a + size) (file / 4096 * 4096 + 4096) k)))
    go true false h k = sym (ne_eqb (file / 4096) (a / 4096) (λ z. omega (arith, leb-false (a + size) (file / 4096 * 4096 + 4096) k)))
    go false y h k = sym (ne_eqb (file / 4096) (a / 4096) (λ z. omega (arith, leb-false (file / 4096 * 4096) a h)))

-- the page of the file is that of the device context, or that of the message entry
abbrev pub same_page : Recording → Bool
same_page r = eqb (r.destination.file / 4096) (r.context / 4096) || eqb (r.destination.file / 4096) (r.entry / 4096)

pub by_pages : (m : ℕ → Load) (r : Recording) → Placed m r → over_tables r ≡ same_page r
by_pages m r p =
    ap₂ (λ (a b : Bool). a || b)
    (one-page r.destination.file r.context 64 (omega arith) (let z = p.context in omega arith))
    (one-page r.destination.file r.entry 16 (omega arith) (let z = p.entry in omega arith))

-- a window of whole pages that holds a doubleword of a page holds the files of that page
in_window : (start len file a : ℕ) → start % 4096 ≡ 0 → len % 4096 ≡ 0 → file % 512 ≡ 0 → file / 4096 ≡ a / 4096 → inside start len a 8 ≡ true → is_file start len file ≡ true
unfolding is_file
in_window start len file a hs hl hf e h =
    let p = and_true (leb start a) _ h in
    let lo = leb-true start a p.0 in
    let hi = leb-true (a + 8) (start + len) p.1 in
    ap₂ (λ (x y : Bool). x && y) (eq-eqb (file % 512) 0 hf)
    (ap₂ (λ (x y : Bool). x && y) (le-leb start file (omega arith)) (le-leb (file + 512) (start + len) (omega arith)))

-- so does one of two windows, where a doubleword of that page was read
module _ (starts : Starts) (xs ys : List ℕ) (paged : Paged starts (length xs) (length ys)) where
  page-lent : (file a : ℕ) → file % 512 ≡ 0 → file / 4096 ≡ a / 4096 → Read (memory (lent starts xs ys)) a → is_lent_file starts (length xs) (length ys) file ≡ true
  unfolding memory
  page-lent file a hf e read = go (inside starts.first (length xs) a 8) (inside starts.second (length ys) a 8) refl refl read.1
    where
      either : (b : Bool) → (b || true) ≡ true
      either true = refl
      either false = refl

      go : (p q : Bool) → inside starts.first (length xs) a 8 ≡ p → inside starts.second (length ys) a 8 ≡ q
          → pick p (Some (doubleword xs (a - starts.first))) (pick q (Some (doubleword ys (a - starts.second))) None) ≡ Some read.0
          → is_lent_file starts (length xs) (length ys) file ≡ true
      go true q h k z =
          ap (λ (b : Bool). b || is_file starts.second (length ys) file) (in_window starts.first (length xs) file a paged.0 paged.1 hf e h)
      go false true h k z =
          ap (λ (b : Bool). is_file starts.first (length xs) file || b) (in_window starts.second (length ys) file a paged.2 paged.3 hf e k)
          ∙ either (is_file starts.first (length xs) file)
      go false false h k z = absurd (no_way cc)

  -- 2007 and 2012 don't meet
  pub over-lent : (r : Recording) → Placed (memory (lent starts xs ys)) r → same_page r ≡ true → is_lent_file starts (length xs) (length ys) r.destination.file ≡ true
  over-lent r p = go (eqb (r.destination.file / 4096) (r.context / 4096)) (eqb (r.destination.file / 4096) (r.entry / 4096)) refl refl
    where
      go : (x y : Bool) → eqb (r.destination.file / 4096) (r.context / 4096) ≡ x → eqb (r.destination.file / 4096) (r.entry / 4096) ≡ y → (x || y) ≡ true
          → is_lent_file starts (length xs) (length ys) r.destination.file ≡ true
      go true y h k z = page-lent r.destination.file r.context p.file (eqb-true (r.destination.file / 4096) (r.context / 4096) h) p.context_read
      go false true h k z = page-lent r.destination.file r.entry p.file (eqb-true (r.destination.file / 4096) (r.entry / 4096) k) p.entry_read
      go false false h k z = absurd (no_way cc)

-- no check before the walk gives this refusal, and where none refuses the windows are whole pages
module _ (s : Settings) (n m : ℕ) (q : DeviceRequest) where
  not_over : request_refusal s n m q ≡ Err FileOverTables → ⊥
  unfolding request_refusal
  not_over e = go (bad_windows s.starts n m) (overlap s.starts n m) (bad_directory s.mode s.root) (leb (2 ^ 24) q.device) (bad_process q.process) (q.supervisor && absent q.process) (bad_length q.address q.length) e
    where
      go : (a b c d f g h : Bool)
          → ◌≡◌ {A = Result (Unit {0}) Refusal}
          (pick a (Err BadWindows) (pick b (Err Overlap) (pick c (Err BadDirectory) (pick d (Err BadDevice) (pick f (Err BadProcess) (pick g (Err NoProcess) (pick h (Err BadLength) (Ok tt))))))))
          (Err FileOverTables) → ⊥
      go true b c d f g h e = no_way cc
      go false true c d f g h e = no_way cc
      go false false true d f g h e = no_way cc
      go false false false true f g h e = no_way cc
      go false false false false true g h e = no_way cc
      go false false false false false true h e = no_way cc
      go false false false false false false true e = no_way cc
      go false false false false false false false e = no_way cc

  passed-paged : (u : Unit {0}) → request_refusal s n m q ≡ Ok u → Paged s.starts n m
  unfolding request_refusal
  passed-paged u e = go (bad_windows s.starts n m) (overlap s.starts n m) _ refl refl e
    where
      go : (a b : Bool) (rest : Result (Unit {0}) Refusal) → bad_windows s.starts n m ≡ a → overlap s.starts n m ≡ b
          → ◌≡◌ {A = Result (Unit {0}) Refusal} (pick a (Err BadWindows) (pick b (Err Overlap) rest)) (Ok u) → Paged s.starts n m
      go true b rest h k z = absurd (no_way cc)
      go false true rest h k z = absurd (no_way cc)
      go false false rest h k z = (window_walkable s.starts n m false (sym h) false refl (sym k) refl).paged

module _ (s : Settings) (xs ys : List ℕ) (q : DeviceRequest) (d : ℕ) where
  -- no check before the walk refuses the request, its message is to be stored, and its file is in the page of its device context or of its message entry
  pub record Over : Type 0 where
    pub recording : Recording
    pub unrefused : request_refusal s (length xs) (length ys) q ≡ Ok tt
    pub named : run (memory (lent s.starts xs ys)) (translate_of s q) ≡ Ok (Recorded recording)
    pub storing : storable q d ≡ true
    pub over : same_page recording ≡ true

  abbrev ends : OutcomeFound → Answer
  ends o = finish s.starts (length xs) (length ys) q d o

  placed : (r : Recording) → run (memory (lent s.starts xs ys)) (translate_of s q) ≡ Ok (Recorded r) → Placed (memory (lent s.starts xs ys)) r
  placed r e = recorded-placed (memory (lent s.starts xs ys)) s q r e

  finish-over : (o : OutcomeFound) → request_refusal s (length xs) (length ys) q ≡ Ok tt → run (memory (lent s.starts xs ys)) (translate_of s q) ≡ o → ends o ≡ Refused 2012 → Over
  unfolding finish
  finish-over (Ok (Outcome.Translated a)) u h e = absurd (no_way cc)
  finish-over (Ok (Outcome.Redirected a)) u h e = absurd (no_way cc)
  finish-over (Err f) u h e = absurd (no_way cc)
  finish-over (Ok (Recorded r)) u h e = go (storable q d) (is_lent_file s.starts (length xs) (length ys) r.destination.file) (over_tables r) refl refl e
    where
      go : (b f v : Bool) → storable q d ≡ b → over_tables r ≡ v
          → pick b (unless_refused (pick (not f) (Err FileOutside) (pick v (Err FileOverTables) (Ok tt))) refused (Stored r.destination)) Discarded ≡ Refused 2012 → Over
      go true true true t o z = record { recording = r; unrefused = u; named = h; storing = t; over = sym (by_pages _ r (placed r h)) ∙ o }
      go true true false t o z = absurd (no_way cc)
      go true false v t o z = absurd (not_2007 z)
      go false f v t o z = absurd (no_way cc)

  -- THE REFUSAL: "exactly when its file lies in the 4 KiB page that holds the request's device context or its message entry"
  pub refused_over : (request_of s xs ys q d ≡ Refused 2012) ↔ Over
  unfolding request_of finish
  refused_over = (λ e. go (request_refusal s (length xs) (length ys) q) refl e, back)
    where
      go : (k : Result (Unit {0}) Refusal) → request_refusal s (length xs) (length ys) q ≡ k
          → unless_refused k refused (ends (run (memory (lent s.starts xs ys)) (translate_of s q))) ≡ Refused 2012 → Over
      go (Ok tt) h e = finish-over (run (memory (lent s.starts xs ys)) (translate_of s q)) h refl e
      go (Err k) h e = absurd (not_over s (length xs) (length ys) q (h ∙ ap Err (over_number k (same_refusal (number_of k) 2012 e))))

      back : Over → request_of s xs ys q d ≡ Refused 2012
      back o =
          let p = placed o.recording o.named in
          let held = over-lent s.starts xs ys (passed-paged s (length xs) (length ys) q tt o.unrefused) o.recording p o.over in
          simp (o.unrefused, o.named, o.storing, held, by_pages _ o.recording p, o.over)
