-- What one call keeps of one bit: it goes as the ledger's event says, and a successful take finds it at 1; and which bytes a call may change. Assumes nothing.
use Prim.Native.Nat.{ℕ, ◌+◌, ◌-◌, ◌*◌, ◌/◌, ◌%◌, ◌^◌, ◌<◌}
use mathlib.Core.Path.{◌≡◌, refl, sym, ap, subst, ◌∙◌}
use mathlib.Core.Bool.{Bool, true, false, ◌&&◌}
use mathlib.Core.List.{List}
use native.Mathlib.Omega.{arith}
use borrow.Author.Tests.{eq-eqb, ne_eqb, eqb-true, eqb-false, leb-true}
use lib.Dec.{eqb, leb}
use lib.ListN.{length, get_or}
use lib.Seq.{get_or-set_other}
use Rattle.std.specs.Prelude.{Result, Ok, Err}
use Rattle.memory.specs.Choice.{pick}
use Rattle.refusal.specs.declared.Refusal.{Refusal}
use Rattle.refusal.specs.Checks.{unless_refused}
use Rattle.memory.specs.Window.{Window, Lent, lent, holds, byte_at}
use Rattle.memory.proofs.Truth.{no_way, true-false, and_true}
use Rattle.word.specs.Word.{contains}
use Rattle.interrupt_file.specs.File.{is_file, place_of, pending_of, after_store, taken_of, after_take_many}
use Rattle.interrupt_file.proofs.Files.{file-at}
use Rattle.interrupt_file.proofs.Pending.{length-after_store, pending-stored, pending-store-other}
use Rattle.interrupt_file.proofs.Many.{length_taken, answered-bit, pending_after_lem, struck-pending, byte-kept}
use Rattle.iommu_refusals.specs.declared.DeviceRequest.{DeviceRequest}
use Rattle.iommu_files.specs.declared.Answer.{Answer}
use Rattle.iommu_files.specs.declared.Answer.TheVariants.{Translated, Redirected, Stored, Discarded, Fault, Refused, Taken}
use Rattle.iommu_files.specs.declared.Numbers.{Numbers}
use Rattle.iommu_files.specs.Answers.{numbers, numbers_of, refused}
use Rattle.iommu_refusals.specs.Refusals.{is_lent_file}
use Rattle.iommu.specs.Request.{identity_of, stored_by, after_request}
use Rattle.iommu_files.specs.Files.{changed_at, answered_at, many_taken_at, take_many_of, after_take_many_of}
use Rattle.iommu.specs.Operations.{Op, request, take, take_many, answer_of, after_of}
use Rattle.ledger.specs.Places.{Side, first_window, second_window, window_of, Place, place, lies_in, is_place}
use Rattle.ledger.specs.Closes.{take_many_refused}
use Rattle.ledger.specs.Machine.{Asked, asks, asks_nothing, Machine, call_of, left_by, AllGranted}
use Rattle.ledger.specs.Ledger.{Event, store, successful_take, nothing, op_event, asked_event, event_of, pending_in}
use Rattle.ledger.proofs.Machine.{step, Told, Keeps, kept-by-all}
use Rattle.ledger.proofs.Answering.{starts, xs, ys, Apart, stored-storing, stored_low, storing-apart, many-passed}
use Rattle.ledger.proofs.Ones.{one-event, one_leaves}
use Rattle.ledger.proofs.Sides.{side-changed, side-answered}

-- a machine whose calls answer and leave what the routines do for the operations that they ask; a call that asks none is refused, and leaves all
abbrev pub Faith : Asked → Numbers → Lent → Lent → Type 0
Faith (asks o) a after l = (a ≡ numbers_of (answer_of l o)) × (after ≡ after_of l o)
Faith asks_nothing a after l = ((r : ℕ) × (a ≡ numbers 5 r 0 0)) × (after ≡ l)

abbrev pub Faithful : {O : Type 0} → Machine O → Type 0
Faithful {O} m = (l : Lent) (o : O) → m.Granted l o → Faith (m.asked o) (m.answer l o) (m.after l o) l

module _ (start : ℕ) (bytes : List ℕ) (file n : ℕ) (hf : is_file start (length bytes) file ≡ true) (ln : n < 2048) where
  -- a store to f i, seen from file n
  store-moves : (f i : ℕ) → is_file start (length bytes) f ≡ true → i < 2048
      → pending_of start (after_store start bytes f i) file n ≡ step (pending_of start bytes file n) (pick (eqb f file && eqb i n) store nothing)
  store-moves f i h l = go (eqb f file) (eqb i n) refl refl
    where
      go : (a b : Bool) → eqb f file ≡ a → eqb i n ≡ b
          → pending_of start (after_store start bytes f i) file n ≡ step (pending_of start bytes file n) (pick (a && b) store nothing)
      go true true p q = rw (← eqb-true f file p, ← eqb-true i n q) (pending-stored start bytes f i h l)
      go true false p q = pending-store-other start bytes f i h l file n hf ln (λ x y. eqb-false i n q (sym y))
      go false b p q = pending-store-other start bytes f i h l file n hf ln (λ x y. eqb-false f file p (sym x))

-- in a window that may hold f or not
module _ (w : Window) (file n : ℕ) (hf : lies_in w file ≡ true) (ln : n < 2048) (f : ℕ) where
  abbrev bit : ℕ
  bit = pending_of w.start w.bytes file n

  -- where it doesn't, f is another file
  other-file : lies_in w f ≡ false → eqb f file ≡ false
  other-file h = ne_eqb f file (λ e. true-false (sym (subst (λ (x : ℕ). lies_in w x ≡ true) (sym e) hf) ∙ h))

  -- a store to f i
  store-side : (i : ℕ) → i < 2048 → (t : Bool) → lies_in w f ≡ t
      → pending_of w.start (pick t (after_store w.start w.bytes f i) w.bytes) file n ≡ step bit (pick (eqb f file && eqb i n) store nothing)
  store-side i l true h = store-moves w.start w.bytes file n hf ln f i h l
  store-side i l false h = rw (other-file h)

  -- a take of many of f
  module _ (d mask : ℕ) (ld : d < 32) where
    abbrev strikes : ℕ → Bool
    strikes v = eqb f file && (eqb d (n / 64) && contains v (n % 64))

    struck : (s : Bool) (after : ℕ) → after ≡ pick s 0 bit → (s ≡ true → bit ≡ 1) → (after ≡ step bit (pick s successful_take nothing)) × Told bit (pick s successful_take nothing)
    struck true after e h = (e, h refl)
    struck false after e h = (e, tt)

    many-side : (v : ℕ) (t : Bool) → lies_in w f ≡ t → (lies_in w f ≡ true → v ≡ taken_of w.start w.bytes f d mask)
        → (pending_of w.start (pick t (after_take_many w.start w.bytes f d mask) w.bytes) file n ≡ step bit (pick (strikes v) successful_take nothing))
        × Told bit (pick (strikes v) successful_take nothing)
    many-side v true h e =
        rw (e h)
        (struck (strikes (taken_of w.start w.bytes f d mask)) _ (pending_after_lem w.start w.bytes f d mask h ld file n hf ln) (struck-pending w.start w.bytes f d mask h ld file n))
    many-side v false h e = rw (other-file h) (refl, tt)

-- the changes of a store and of a take of many
abbrev stores : ℕ → ℕ → ℕ → List ℕ → List ℕ
stores f i start bytes = after_store start bytes f i

abbrev clears : ℕ → ℕ → ℕ → ℕ → List ℕ → List ℕ
clears f d mask start bytes = after_take_many start bytes f d mask

-- every operation keeps each window's place and length
length-pick : (t : Bool) (u v : List ℕ) → length u ≡ length v → length (pick t u v) ≡ length v
length-pick true u v e = e
length-pick false u v e = refl

length-pick-other : (t : Bool) (u v : List ℕ) → length v ≡ length u → length (pick t u v) ≡ length u
length-pick-other true u v e = refl
length-pick-other false u v e = e

-- windows of one place and one length
pub record Same (l k : Lent) (s : Side) : Type 0 where
  pub place : (window_of k s).start ≡ (window_of l s).start
  pub long : length (window_of k s).bytes ≡ length (window_of l s).bytes

pub same-own : (l : Lent) (s : Side) → Same l l s
same-own l s = record { place = refl; long = refl }

pub same_next : (l k j : Lent) (s : Side) → Same l k s → Same k j s → Same l j s
same_next l k j s p q = record { place = q.place ∙ p.place; long = q.long ∙ p.long }

changed-same : (l : Lent) (f : ℕ) (change : ℕ → List ℕ → List ℕ) → ((start : ℕ) (bytes : List ℕ) → length (change start bytes) ≡ length bytes)
    → (s : Side) → Same l (changed_at (starts l) (xs l) (ys l) f change) s
changed-same l f change e first_window = record { place = refl; long = length-pick (lies_in l.first f) _ (xs l) (e l.first.start (xs l)) }
changed-same l f change e second_window = record { place = refl; long = length-pick-other (lies_in l.first f) (ys l) _ (e l.second.start (ys l)) }

lent-own : (l : Lent) (s : Side) → Same l (lent (starts l) (xs l) (ys l)) s
lent-own l first_window = record { place = refl; long = refl }
lent-own l second_window = record { place = refl; long = refl }

many-same : (l : Lent) (f d mask : ℕ) (s : Side) → Same l (after_of l (take_many f d mask)) s
unfolding after_take_many_of
many-same l f d mask s = go (take_many_refused l f d)
  where
    go : (r : Result (Unit {0}) Refusal) → Same l (unless_refused r (λ k. lent (starts l) (xs l) (ys l)) (many_taken_at (starts l) (xs l) (ys l) f d mask)) s
    go (Ok u) = changed-same l f (clears f d mask) (λ start bytes. length_taken start bytes f d mask 64) s
    go (Err r) = lent-own l s

op_same : (l : Lent) (o : Op) (s : Side) → Same l (after_of l o) s
unfolding after_request
op_same l (request mode root q value) s = go (answer_of l (request mode root q value))
  where
    go : (a : Answer) → Same l (stored_by (starts l) (xs l) (ys l) q value a) s
    go (Stored d) = changed-same l d.file (stores d.file (identity_of q value)) (λ start bytes. length-after_store start bytes d.file (identity_of q value)) s
    go (Translated a) = lent-own l s
    go (Redirected a) = lent-own l s
    go Discarded = lent-own l s
    go (Fault f) = lent-own l s
    go (Refused r) = lent-own l s
    go (Taken w) = lent-own l s
op_same l (take f i) s = subst (λ (k : Lent). Same l k s) (one_leaves l f i) (many-same l f (i / 64) (2 ^ (i % 64)) s)
op_same l (take_many f d mask) s = many-same l f d mask s

call_same : (k : Asked) (a : Numbers) (l after : Lent) (s : Side) → Faith k a after l → Same l after s
call_same (asks o) a l after s f = subst (λ (x : Lent). Same l x s) (sym f.1) (op_same l o s)
call_same asks_nothing a l after s f = subst (λ (x : Lent). Same l x s) (sym f.1) (same-own l s)

-- the file is one of its window
abbrev pub Held : Place → Lent → Type 0
Held p l = is_place l p ≡ true

pub same-held : (l k : Lent) (p : Place) → Same l k p.side → Held p l → Held p k
same-held l k p s h =
    subst (λ (x : ℕ). is_file (window_of k p.side).start x p.file ≡ true) (sym s.long)
    (subst (λ (x : ℕ). is_file x (length (window_of l p.side).bytes) p.file ≡ true) (sym s.place) h)

module _ (p : Place) (n : ℕ) (ln : n < 2048) (l : Lent) (h : Held p l) where
  abbrev b : ℕ
  b = pending_in l p n

  abbrev w : Window
  w = window_of l p.side

  -- a call that leaves all
  own-moves : pending_in (lent (starts l) (xs l) (ys l)) p n ≡ b
  own-moves = go p.side
    where
      go : (s : Side) → pending_in (lent (starts l) (xs l) (ys l)) (place s p.file) n ≡ pending_in l (place s p.file) n
      go first_window = refl
      go second_window = refl

  changed-moves : (f : ℕ) (change : ℕ → List ℕ → List ℕ) → Apart l → is_lent_file (starts l) (length (xs l)) (length (ys l)) f ≡ true
      → pending_in (changed_at (starts l) (xs l) (ys l) f change) p n ≡ pending_of w.start (pick (lies_in w f) (change w.start w.bytes) w.bytes) p.file n
  changed-moves f change a e =
      ap (λ (x : ℕ). pending_of x (window_of (changed_at (starts l) (xs l) (ys l) f change) p.side).bytes p.file n) (start_is p.side)
      ∙ ap (λ (x : List ℕ). pending_of w.start x p.file n) (side-changed l f a e change p.side)
    where
      start_is : (s : Side) → (window_of (changed_at (starts l) (xs l) (ys l) f change) s).start ≡ (window_of l s).start
      start_is first_window = refl
      start_is second_window = refl

  store_told : (t : Bool) → Told b (pick t store nothing)
  store_told true = tt
  store_told false = tt

  request-moves : (mode root : ℕ) (q : DeviceRequest) (value : ℕ) (a : Answer) → answer_of l (request mode root q value) ≡ a
      → (pending_in (stored_by (starts l) (xs l) (ys l) q value a) p n ≡ step b (op_event p.file n (request mode root q value) (numbers_of a)))
      × Told b (op_event p.file n (request mode root q value) (numbers_of a))
  request-moves mode root q value (Stored d) e =
      let s = stored-storing l mode root q value d e in (
        changed-moves d.file (stores d.file (identity_of q value)) (storing-apart l mode root q value d s) s.within
            ∙ store-side w p.file n h ln d.file (identity_of q value) (stored_low l mode root q value d s) _ refl,
        store_told (eqb d.file p.file && eqb (identity_of q value) n),
      )
  request-moves mode root q value (Translated a) e = (own-moves, tt)
  request-moves mode root q value (Redirected a) e = (own-moves, tt)
  request-moves mode root q value Discarded e = (own-moves, tt)
  request-moves mode root q value (Fault f) e = (own-moves, tt)
  request-moves mode root q value (Refused r) e = (own-moves, tt)
  request-moves mode root q value (Taken v) e = (own-moves, tt)

  -- what an operation does to the bit
  abbrev Moves : Op → Type 0
  Moves o = (pending_in (after_of l o) p n ≡ step b (op_event p.file n o (numbers_of (answer_of l o)))) × Told b (op_event p.file n o (numbers_of (answer_of l o)))

  many-step : (f d mask : ℕ) (r : Result (Unit {0}) Refusal) → take_many_refused l f d ≡ r
      → (pending_in (unless_refused r (λ k. lent (starts l) (xs l) (ys l)) (many_taken_at (starts l) (xs l) (ys l) f d mask)) p n
      ≡ step b (op_event p.file n (take_many f d mask) (numbers_of (unless_refused r refused (Taken (answered_at (starts l) (xs l) (ys l) f d mask))))))
      × Told b (op_event p.file n (take_many f d mask) (numbers_of (unless_refused r refused (Taken (answered_at (starts l) (xs l) (ys l) f d mask)))))
  many-step f d mask (Ok tt) e =
      let k = many-passed l f d e in
      let t = many-side w p.file n h ln f d mask k.2 (answered_at (starts l) (xs l) (ys l) f d mask) _ refl (side-answered l f k.0 k.1 d mask p.side) in
      (changed-moves f (clears f d mask) k.0 k.1 ∙ t.0, t.1)
  many-step f d mask (Err r) e = (own-moves, tt)

  many-moves : (f d mask : ℕ) → Moves (take_many f d mask)
  unfolding take_many_of after_take_many_of
  many-moves f d mask = many-step f d mask _ refl

  op-moves : (o : Op) → Moves o
  unfolding after_request
  op-moves (request mode root q value) = request-moves mode root q value _ refl
  op-moves (take f i) = rw (← one_leaves l f i, one-event l f i p.file n) (many-moves f (i / 64) (2 ^ (i % 64)))
  op-moves (take_many f d mask) = many-moves f d mask

  call_moves : (k : Asked) (a : Numbers) (after : Lent) → Faith k a after l
      → (pending_in after p n ≡ step b (asked_event p.file n k a)) × Told b (asked_event p.file n k a)
  call_moves (asks o) a after f = rw (f.0, f.1) (op-moves o)
  call_moves asks_nothing a after f = (ap (λ (x : Lent). pending_in x p n) f.1, tt)

-- ---- the bytes
own-store : (x y : ℕ) → pick (eqb x x && eqb y y) store nothing ≡ nothing → ⊥
own-store x y e = no_way (let s : pick (eqb x x && eqb y y) store nothing ≡ store = rw (eq-eqb x x refl, eq-eqb y y refl) in cc)

own-take : (x : ℕ) (t : Bool) → t ≡ true → pick (eqb x x && t) successful_take nothing ≡ nothing → ⊥
own-take x t h e = no_way (let s : pick (eqb x x && t) successful_take nothing ≡ successful_take = rw (eq-eqb x x refl, h) in cc)

-- a byte of a window, where no pending bit that it holds has an event
module _ (w : Window) (a : ℕ) (inw : holds w a 1 ≡ true) where
  -- an index of the byte is that of its address
  index_is : (f n : ℕ) → lies_in w f ≡ true → a - w.start ≡ place_of f n - w.start → a ≡ place_of f n
  index_is f n h e =
      let g = file-at h in
      let lo = leb-true w.start a (and_true (leb w.start a) _ inw).0 in
      omega (arith, g.after)

  store-quiet : (f n : ℕ) (t : Bool) → lies_in w f ≡ t → (lies_in w f ≡ true → a ≡ place_of f n → ⊥)
      → get_or (pick t (after_store w.start w.bytes f n) w.bytes) (a - w.start) 0 ≡ byte_at w a
  unfolding after_store
  store-quiet f n true h k = get_or-set_other w.bytes _ (a - w.start) _ 0 (λ e. k h (index_is f n h e))
  store-quiet f n false h k = refl

  many-quiet : (f d mask : ℕ) → d < 32 → (t : Bool) → lies_in w f ≡ t
      → (lies_in w f ≡ true → (n : ℕ) → n < 2048 → a ≡ place_of f n → (eqb d (n / 64) && contains (taken_of w.start w.bytes f d mask) (n % 64)) ≡ true → ⊥)
      → get_or (pick t (after_take_many w.start w.bytes f d mask) w.bytes) (a - w.start) 0 ≡ byte_at w a
  many-quiet f d mask ld false h k = refl
  many-quiet f d mask ld true h k =
      byte-kept w.start w.bytes f d mask h ld (a - w.start) 64 (omega arith)
      (λ r l c v e. k h (64 * d + r) (omega arith) (index_is f (64 * d + r) h e) (rw (eq-eqb d ((64 * d + r) / 64) (omega arith), low r l, answered-bit w.start w.bytes f d mask h ld r l, c, eq-eqb (pending_of w.start w.bytes f (64 * d + r)) 1 v)))
    where
      low : (r : ℕ) → r < 64 → (64 * d + r) % 64 ≡ r
      low r l = omega arith

-- the byte at a holds no pending bit for which there is an event
abbrev pub Quiet : Lent → Side → ℕ → (ℕ → ℕ → Event) → Type 0
Quiet l s a event = (file n : ℕ) → is_place l (place s file) ≡ true → n < 2048 → a ≡ place_of file n → event file n ≡ nothing

module _ (l : Lent) (s : Side) (a : ℕ) (inw : holds (window_of l s) a 1 ≡ true) where
  own-byte : byte_at (window_of (lent (starts l) (xs l) (ys l)) s) a ≡ byte_at (window_of l s) a
  own-byte = go s
    where
      go : (t : Side) → byte_at (window_of (lent (starts l) (xs l) (ys l)) t) a ≡ byte_at (window_of l t) a
      go first_window = refl
      go second_window = refl

  changed-byte : (f : ℕ) (change : ℕ → List ℕ → List ℕ) → Apart l → is_lent_file (starts l) (length (xs l)) (length (ys l)) f ≡ true
      → byte_at (window_of (changed_at (starts l) (xs l) (ys l) f change) s) a
      ≡ get_or (pick (lies_in (window_of l s) f) (change (window_of l s).start (window_of l s).bytes) (window_of l s).bytes) (a - (window_of l s).start) 0
  changed-byte f change p e =
      ap (λ (x : ℕ). get_or (window_of (changed_at (starts l) (xs l) (ys l) f change) s).bytes (a - x) 0) (start_is s)
      ∙ ap (λ (x : List ℕ). get_or x (a - (window_of l s).start) 0) (side-changed l f p e change s)
    where
      start_is : (t : Side) → (window_of (changed_at (starts l) (xs l) (ys l) f change) t).start ≡ (window_of l t).start
      start_is first_window = refl
      start_is second_window = refl

  request-quiet : (mode root : ℕ) (q : DeviceRequest) (value : ℕ) (r : Answer) → answer_of l (request mode root q value) ≡ r
      → Quiet l s a (λ file n. op_event file n (request mode root q value) (numbers_of r))
      → byte_at (window_of (stored_by (starts l) (xs l) (ys l) q value r) s) a ≡ byte_at (window_of l s) a
  request-quiet mode root q value (Stored d) e h =
      let k = stored-storing l mode root q value d e in
      changed-byte d.file (stores d.file (identity_of q value)) (storing-apart l mode root q value d k) k.within
      ∙ store-quiet (window_of l s) a inw d.file (identity_of q value) _ refl
      (λ t p. own-store d.file (identity_of q value) (h d.file (identity_of q value) t (stored_low l mode root q value d k) p))
  request-quiet mode root q value (Translated v) e h = own-byte
  request-quiet mode root q value (Redirected v) e h = own-byte
  request-quiet mode root q value Discarded e h = own-byte
  request-quiet mode root q value (Fault f) e h = own-byte
  request-quiet mode root q value (Refused r) e h = own-byte
  request-quiet mode root q value (Taken v) e h = own-byte

  taken-quiet : (f d mask : ℕ) (r : Result (Unit {0}) Refusal) → take_many_refused l f d ≡ r
      → Quiet l s a (λ file i. op_event file i (take_many f d mask) (numbers_of (unless_refused r refused (Taken (answered_at (starts l) (xs l) (ys l) f d mask)))))
      → byte_at (window_of (unless_refused r (λ k. lent (starts l) (xs l) (ys l)) (many_taken_at (starts l) (xs l) (ys l) f d mask)) s) a ≡ byte_at (window_of l s) a
  taken-quiet f d mask (Err r) e h = own-byte
  taken-quiet f d mask (Ok tt) e h =
      let k = many-passed l f d e in
      changed-byte f (clears f d mask) k.0 k.1
      ∙ many-quiet (window_of l s) a inw f d mask k.2 _ refl
      (λ t n ln p v. own-take f _ (ap (λ (x : ℕ). eqb d (n / 64) && contains x (n % 64)) (side-answered l f k.0 k.1 d mask s t) ∙ v) (h f n t ln p))

  many_quietly : (f d mask : ℕ) → Quiet l s a (λ file n. op_event file n (take_many f d mask) (numbers_of (answer_of l (take_many f d mask))))
      → byte_at (window_of (after_of l (take_many f d mask)) s) a ≡ byte_at (window_of l s) a
  unfolding take_many_of after_take_many_of
  many_quietly f d mask h = taken-quiet f d mask _ refl h

  op-quiet : (o : Op) → Quiet l s a (λ file n. op_event file n o (numbers_of (answer_of l o))) → byte_at (window_of (after_of l o) s) a ≡ byte_at (window_of l s) a
  unfolding after_request
  op-quiet (request mode root q value) h = request-quiet mode root q value _ refl h
  op-quiet (take f i) h =
      ap (λ (k : Lent). byte_at (window_of k s) a) (sym (one_leaves l f i))
      ∙ many_quietly f (i / 64) (2 ^ (i % 64)) (λ file n k ln e. sym (one-event l f i file n) ∙ h file n k ln e)
  op-quiet (take_many f d mask) h = many_quietly f d mask h

  call_quiet : (k : Asked) (c : Numbers) (after : Lent) → Faith k c after l → Quiet l s a (λ file n. asked_event file n k c) → byte_at (window_of after s) a ≡ byte_at (window_of l s) a
  call_quiet (asks o) c after f h =
      ap (λ (x : Lent). byte_at (window_of x s) a) f.1 ∙ op-quiet o (subst (λ (x : Numbers). Quiet l s a (λ file n. op_event file n o x)) f.0 h)
  call_quiet asks_nothing c after f h = ap (λ (x : Lent). byte_at (window_of x s) a) f.1

-- ---- of a faithful machine
module _ {O : Type 0} (m : Machine O) (faith : Faithful m) where
  pub step_same : (l : Lent) (o : O) → m.Granted l o → (s : Side) → Same l (m.after l o) s
  step_same l o g s = call_same (m.asked o) (m.answer l o) l (m.after l o) s (faith l o g)

  pub list_same : (l : Lent) (ops : List O) → AllGranted m l ops → (s : Side) → Same l (left_by m l ops) s
  list_same l ops g s = kept-by-all m (λ k. Same l k s) (λ k o t p. same_next l k (m.after k o) s t (step_same k o p s)) l ops (same-own l s) g

  pub step-quiet : (l : Lent) (o : O) (s : Side) (a : ℕ) → holds (window_of l s) a 1 ≡ true → m.Granted l o → Quiet l s a (λ file n. event_of m file n (call_of m l o))
      → byte_at (window_of (m.after l o) s) a ≡ byte_at (window_of l s) a
  step-quiet l o s a i g h = call_quiet l s a i (m.asked o) (m.answer l o) (m.after l o) (faith l o g) h

  pub keeps : (p : Place) (n : ℕ) → n < 2048 → (l : Lent) (o : O) → Held p l → m.Granted l o → Keeps m p n (Held p) l o
  keeps p n ln l o h g =
      let k = call_moves p n ln l h (m.asked o) (m.answer l o) (m.after l o) (faith l o g) in
      record { inv = same-held l (m.after l o) p (step_same l o g p.side) h; moves = k.0; told = k.1 }
