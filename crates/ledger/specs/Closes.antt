-- Demand 3, "the ledger closes": one claim about any list of calls (01, "The ledger of demand 3").
use Rattle.std.specs.Prelude.{ℕ, ◌+◌, ◌*◌, ◌<◌, ◌≡◌, ◌↔◌, true, false, ◌&&◌, List, [], ◌∷◌, ◌++◌, eqb, length, Result, Ok, Err}
use Rattle.memory.specs.Choice.{pick}
use Rattle.memory.specs.Window.{Lent, holds, byte_at, memory}
use Rattle.memory.specs.Walk.{run}
use Rattle.word.specs.Word.{contains, word_of}
use Rattle.message.specs.declared.Destination.{Destination}
use Rattle.interrupt_file.specs.File.{place_of}
use Rattle.refusal.specs.Refusal.{number_of}
use Rattle.refusal.specs.declared.Refusal.{Refusal}
use Rattle.iommu_refusals.specs.declared.DeviceRequest.{DeviceRequest}
use Rattle.iommu_translation.specs.declared.Recording.{Recording}
use Rattle.iommu_translation.specs.declared.Outcome.TheVariants.{Recorded}
use Rattle.iommu_files.specs.declared.Answer.TheVariants.{Stored, Taken}
use Rattle.iommu_files.specs.declared.Numbers.{Numbers}
use Rattle.iommu_files.specs.Answers.{numbers, numbers_of}
use Rattle.iommu_refusals.specs.Refusals.{is_lent_file, request_refusal, take_refusal, take_many_refusal}
use Rattle.iommu_translation.specs.Translate.{translate_of}
use Rattle.iommu.specs.Request.{storable, over_tables}
use Rattle.iommu.specs.Operations.{request, take, take_many, starts_of, settings}
use Rattle.ledger.specs.Places.{Side, window_of, Place, place, is_place}
use Rattle.ledger.specs.Machine.{asks, Machine, Call, call_of, left_by, history}
use Rattle.ledger.specs.Ledger.{Account, store, nothing, event_of, pending_in, account_of}
use Rattle.ledger.specs.Sums.{total, among, Different, op_stores, op_takes, added_up}

-- a recorded message by its destination and the addresses of its device context and of its message entry
abbrev pub recording : Destination → ℕ → ℕ → Recording
recording d context entry = record { destination = d; context = context; entry = entry }

-- "the standards, read with this document, make it stored on the bytes before that call and no refusal stops it"; d is "the file that its entry names", and its notice. The refusals are those before the walk, 2007 and, since Req 06, 2012
pub record Storing (l : Lent) (mode root : ℕ) (q : DeviceRequest) (value : ℕ) (d : Destination) : Type 0 where
  pub context : ℕ
  pub entry : ℕ
  pub unrefused : request_refusal (settings l mode root) (length l.first.bytes) (length l.second.bytes) q ≡ Ok tt
  pub named : run (memory l) (translate_of (settings l mode root) q) ≡ Ok (Recorded (recording d context entry))
  pub storing : storable q value ≡ true
  pub within : is_lent_file (starts_of l) (length l.first.bytes) (length l.second.bytes) d.file ≡ true
  pub clear : over_tables (recording d context entry) ≡ false

-- what the checks of a take give, of one or of many
abbrev pub take_refused : Lent → ℕ → ℕ → Result (Unit {0}) Refusal
take_refused l file n = take_refusal (starts_of l) (length l.first.bytes) (length l.second.bytes) file n

abbrev pub take_many_refused : Lent → ℕ → ℕ → Result (Unit {0}) Refusal
take_many_refused l file d = take_many_refusal (starts_of l) (length l.first.bytes) (length l.second.bytes) file d

-- a check refuses, and its refusal has the number r
abbrev pub Refuses : Result (Unit {0}) Refusal → ℕ → Type 0
Refuses checked r = (why : Refusal) × (checked ≡ Err why) × (number_of why ≡ r)

-- "A notice is the second and third number of an answer 2"
pub record Notice : Type 0 where
  pub page : ℕ
  pub number : ℕ

abbrev pub notices_of : Numbers → List Notice
notices_of a = pick (eqb a.kind 2) (record { page = a.second; number = a.third } ∷ []) []

-- the notice that an entry in MRIF mode gives, once
abbrev pub notice_given : Destination → List Notice
notice_given d = record { page = d.notice; number = d.number } ∷ []

-- of a machine, on what is lent at the start
module _ {O : Type 0} (m : Machine O) (l : Lent) where
  -- o is a call of the list, and the calls of `before` are those before it
  abbrev pub Comes : List O → List O → O → Type 0
  Comes ops before o = (rest : List O) × (ops ≡ before ++ (o ∷ rest))

  -- after a list of calls: what is lent then, an identity's pending bit, and its account, from the history
  abbrev pub left : List O → Lent
  left ops = left_by m l ops

  abbrev pub pending_after : List O → Place → ℕ → ℕ
  pending_after ops p n = pending_in (left ops) p n

  abbrev pub account_after : List O → Place → ℕ → Account
  account_after ops p n = account_of m l ops p n

  -- a call that comes after those of `before`: its answer, itself as the ledger is fed it, and what it leaves
  abbrev pub answer_at : List O → O → Numbers
  answer_at before o = m.answer (left before) o

  abbrev pub call_at : List O → O → Call O
  call_at before o = call_of m (left before) o

  abbrev pub after_at : List O → O → Lent
  after_at before o = m.after (left before) o

  -- a file that is counted: one of either window, and what the machine asks of it
  pub record Counted (ops : List O) (p : Place) : Type 0 where
    pub within : is_place l p ≡ true
    pub counts : m.Counts l ops p

  abbrev pub AllCounted : List O → List Place → Type 0
  AllCounted ops [] = Unit {0}
  AllCounted ops (p ∷ ps) = Counted ops p × AllCounted ops ps

  -- the sums of a list of files: stores add up to the stores of the history's calls, and takes to their successful takes
  pub record Adds (ops : List O) (places : List Place) : Type 0 where
    pub balance : total places (pending_in l) + total places (λ p n. (account_after ops p n).stores)
        ≡ total places (λ p n. (account_after ops p n).takes) + total places (λ p n. (account_after ops p n).merged) + total places (pending_after ops)
    pub stores : total places (λ p n. (account_after ops p n).stores) ≡ added_up m (op_stores (among places)) (history m l ops)
    pub takes : total places (λ p n. (account_after ops p n).takes) ≡ added_up m (op_takes (among places)) (history m l ops)

  -- the byte at an address of one window holds no pending bit for which a call is an event
  abbrev pub Untouched : List O → O → Side → ℕ → Type 0
  Untouched before o s a =
      (file n : ℕ) → is_place l (place s file) ≡ true → n < 2048 → a ≡ place_of file n → event_of m file n (call_at before o) ≡ nothing

  -- what a call may change, in each window
  pub record Changes (before : List O) (o : O) (s : Side) : Type 0 where
    pub placed : (window_of (after_at before o) s).start ≡ (window_of l s).start
    pub long : length (window_of (after_at before o) s).bytes ≡ length (window_of l s).bytes
    pub others : (a : ℕ) → holds (window_of l s) a 1 ≡ true → Untouched before o s a
        → byte_at (window_of (after_at before o) s) a ≡ byte_at (window_of (left before) s) a

  -- THE CLAIM about a list of calls
  pub record Closes (ops : List O) : Type 0 where
    -- "fed the window's starting bytes, then each call's arguments and its answer": the history has each call with its answer on what the last one left. This holds of any machine
    pub calls : (before : List O) (o : O) (rest : List O) → ops ≡ before ++ (o ∷ rest)
        → (history m l ops ≡ history m l before ++ (call_at before o ∷ history m (after_at before o) rest))
        × (left ops ≡ left_by m (after_at before o) rest)
    -- 1. for each file and identity: pending at the start + stores ≡ successful takes + merged stores + pending at the end
    pub balance : (p : Place) (n : ℕ) → Counted ops p → n < 2048
        → pending_in l p n + (account_after ops p n).stores
        ≡ (account_after ops p n).takes + (account_after ops p n).merged + pending_after ops p n
    -- 2. "demand 3's sums hold with these counts; a sum over files adds up their 2,048 identities each"
    pub sums : (places : List Place) → Different places → AllCounted ops places → Adds ops places
    -- 3. "A request is answered 2, its first number the file that its entry names, exactly when the standards, read with this document, make it stored"; d is all three numbers
    pub stored : (before : List O) (o : O) (mode root : ℕ) (q : DeviceRequest) (value : ℕ) (d : Destination) → Comes ops before o
        → m.asked o ≡ asks (request mode root q value)
        → (answer_at before o ≡ numbers_of (Stored d)) ↔ Storing (left before) mode root q value d
    -- 4. "A take that isn't refused is answered 6, with 1 exactly when the mark is waiting, else with 0"
    pub taken : (before : List O) (o : O) (p : Place) (n : ℕ) → Comes ops before o → m.asked o ≡ asks (take p.file n) → take_refused l p.file n ≡ Ok tt
        → Counted before p
        → (answer_at before o ≡ numbers_of (Taken (account_after before p n).mark)) × ((account_after before p n).mark < 2)
    -- of many: "in a call that isn't refused, a bit is answered exactly when it is in the mask and its interrupt waits"; bit k is identity 64 d + k
    pub taken_many : (before : List O) (o : O) (p : Place) (d mask : ℕ) → Comes ops before o → m.asked o ≡ asks (take_many p.file d mask) → take_many_refused l p.file d ≡ Ok tt
        → Counted before p
        → answer_at before o ≡ numbers_of (Taken (word_of 64 (λ k. contains mask k && eqb (account_after before p (64 * d + k)).mark 1)))
    -- and each is refused exactly when a check refuses it, by the check's number
    pub refused : (before : List O) (o : O) (file n r : ℕ) → Comes ops before o → m.asked o ≡ asks (take file n)
        → (answer_at before o ≡ numbers 5 r 0 0) ↔ Refuses (take_refused l file n) r
    pub refused_many : (before : List O) (o : O) (file d mask r : ℕ) → Comes ops before o → m.asked o ≡ asks (take_many file d mask)
        → (answer_at before o ≡ numbers 5 r 0 0) ↔ Refuses (take_many_refused l file d) r
    -- 5. "After the list each pending bit is 1 exactly when its mark is waiting"; both are 0 or 1
    pub marks : (p : Place) (n : ℕ) → Counted ops p → n < 2048
        → (pending_after ops p n ≡ (account_after ops p n).mark) × (pending_after ops p n < 2)
    -- 6. every store gives exactly one notice, as its entry gives it
    pub notices : (before : List O) (o : O) (d : Destination) → Comes ops before o → answer_at before o ≡ numbers_of (Stored d)
        → notices_of (answer_at before o) ≡ notice_given d
    -- no other call gives one
    pub silent : (before : List O) (o : O) → Comes ops before o → ((file n : ℕ) → event_of m file n (call_at before o) ≡ store → ⊥)
        → notices_of (answer_at before o) ≡ []
    -- 7. a call changes no byte of either window but one with a pending bit for which it is an event, and neither a window's place nor its length
    pub changes : (before : List O) (o : O) (s : Side) → Comes ops before o → Changes before o s
